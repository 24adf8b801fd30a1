use Rattle.std.proofs.Common.{◌≡◌, ℕ, List, [], ◌∷◌, length, map, refl, sym, rules}
use Rattle.std.proofs.lemmas.Bool.{eqb-false}
use Rattle.std.proofs.lemmas.Iterator.{YieldsList-from_slice, YieldsList-from_map}
use Rattle.std.specs.List.{flat_map}
use Rattle.lines.specs.Letters.{code_word_of, code_word_text}
use Rattle.lines.specs.Lines.{code_text}
use Rattle.lines.proofs.Puts.{puts_as}
use Rattle.lines.proofs.texts.put_code.Goals as goal

some_code : (ws : List ℕ) → (length ws ≡ 0 → ⊥) → flat_map code_word_text (map code_word_of ws) ≡ code_text ws
some_code [] some = absurd (some refl)
some_code (w ∷ ws) some = refl

pub returns : goal.returns
returns c =
    puts_as (some_code c.args.code.now (eqb-false _ _ (sym c.if-is_empty.ensures)))
    (c.put_each.ensures (map code_word_of c.args.code.now)
    (YieldsList-from_map _ code_word_of (YieldsList-from_slice c.args.code.now (cc)) c.map.ensures.closure (λ x r q k. search rules)).runs)
