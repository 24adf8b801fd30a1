-- Filling the rest of a slice with zeros.
use Rattle.std.proofs.Common.{◌≡◌, ℕ, ◌-◌, ◌≤◌, List, [], length, take, drop, replicate, refl, ap, ◌∙◌, append-nil, arith, length-drop}
use borrow.Rule.Slice.PartMut.{put_mid}
use Rattle.std.proofs.lemmas.List.{drop_all, take_rest, take_all}
use Rattle.lists.specs.Endings.{zeroed_from}

pub zeroed_part : (ws ys : List ℕ) (from : ℕ) → ys ≡ replicate (length (take (length ws - from) (drop from ws))) 0 → put_mid from (length ws - from) ws ys ≡ zeroed_from from ws
zeroed_part ws ys from filled =
    let nothing : drop (length ws - from) (drop from ws) ≡ [] = drop_all (length ws - from) (drop from ws) (simp length-drop (omega arith)) in
    let part : length (take (length ws - from) (drop from ws)) ≡ length ws - from = ap length (take_rest ws from) ∙ length-drop from ws in
    rw (nothing, append-nil ys, filled, part) refl

pub zeroed_none : (ws : List ℕ) (from : ℕ) → length ws ≤ from → ws ≡ zeroed_from from ws
zeroed_none ws from h =
    let none : length ws - from ≡ 0 = omega arith in
    let all : take from ws ≡ ws = take_all from ws h in
    rw (none, all, append-nil ws) refl
