use Rattle.std.proofs.Common.{◌≡◌, ℕ, List, [], ◌∷◌, vec_items, ap, ◌∙◌, arith}
use Rattle.words.specs.Words.{payload_of, record_word}
use Rattle.sheet.specs.Layout.{body}
use Rattle.paths.specs.Paths.{code_words}
use Rattle.paths.specs.Places.{is_place}
use Rattle.paths.proofs.Loading.{loaded}
use Rattle.behaviour.specs.Automata.{automaton_of}
use Rattle.behaviour.specs.Law.{lawful_start}
use Rattle.behaviour.proofs.behaviour.Behaviour.new.Goals as goal

-- the code of the start, by what was read of the first process
start-code : (ws rs code : List ℕ) (r : ℕ) → rs ≡ ws → r ≡ body rs 0 → code ≡ record_word (payload_of r) ∷ [] → code ≡ record_word (body ws 0) ∷ []
start-code ws rs code r same r_is code_is =
    let first : payload_of r ≡ body ws 0 = omega (arith, ap (λ xs. body xs 0) same) in
    code_is ∙ ap (λ n. record_word n ∷ []) first

pub invariant_of-result : goal.invariant_of-result
invariant_of-result c =
    let ws = vec_items c.args.model.words in record {
      stands = ap (is_place ws) (start-code ws _ _ _ c.reader.ensures c.body.ensures c.start-place.ensures) ∙ lawful_start ws _ (loaded c.args.model);
      told = c.ceilings_in-ceilings.ensures;
    }

pub returns : goal.returns
returns c =
    let ws = vec_items c.args.model.words in
    ap (λ (code : List ℕ). record { automaton = automaton_of ws (vec_items c.args.model.table); place = code })
    (start-code ws _ (code_words c.start-place.result) _ c.reader.ensures c.body.ensures c.start-place.ensures)
