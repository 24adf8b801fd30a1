use Rattle.std.proofs.Common.{ℕ, ◌-◌, List, map, length, get_or, take, drop, Some, sym, ap, ◌∙◌, arith, ltb-false, ltb-true}
use Rattle.std.proofs.lemmas.List.{length-take-le, length-drop, take_rest}
use Rattle.std.specs.Option.{option_map}
use Rattle.words.specs.Words.{payload_of}
use Rattle.rules.specs.Descents.{within}
use Rattle.paths.specs.Paths.{found}
use Rattle.paths.proofs.Loading.{loaded}
use Rattle.paths.proofs.Arriving.{from_words, from_nothing, head_frames}
use Rattle.paths.proofs.descend.path_to.Goals as goal

pub returns-in_default : goal.returns-in_default
returns-in_default c = from_nothing _ _ c.words.result.now _ c.args.id c.words.ensures (omega (arith, ltb-false, ltb-true))

pub under_frames-requires : goal.under_frames-requires
under_frames-requires c =
    let xs = c.words.result.now in
    let few = head_frames _ _ (loaded c.args.model.now) (get_or xs 0 0) c.args.id c.in-Some.inner (sym (ap found c.in-Some.is) ∙ c.from_head-path.ensures) in
    let b = c.args.code.now.words in
    let n = ap length c.words.ensures in
    let m = length-take-le b.count b.entries (omega arith) in
    rw (take_rest xs 1, length-drop 1 xs) (omega arith)

pub returns-in-Some : goal.returns-in-Some
returns-in-Some c =
    let xs : List ℕ = c.words.result.now in
    let fs : List ℕ = map payload_of (take (length xs - 1) (drop 1 xs)) in
    from_words _ _ xs _ c.args.id _ c.words.ensures (omega (arith, ltb-false, ltb-true))
    (ap Some c.under_frames.ensures ∙ ap (option_map (within fs)) (sym (ap found c.in-Some.is) ∙ c.from_head-path.ensures))

pub returns-in_default-path : goal.returns-in_default-path
returns-in_default-path c =
    let xs : List ℕ = c.words.result.now in
    let fs : List ℕ = map payload_of (take (length xs - 1) (drop 1 xs)) in
    let none = ap found c.in_default-path.is in
    from_words _ _ xs _ c.args.id _ c.words.ensures (omega (arith, ltb-false, ltb-true))
    (none ∙ ap (option_map (within fs)) (sym none ∙ c.from_head-path.ensures))
