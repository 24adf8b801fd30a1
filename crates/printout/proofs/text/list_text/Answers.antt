use Rattle.std.proofs.Common.{◌≡◌, ℕ, false, List, length, Err, Result, vec_items, sym, ap, ◌∙◌, rules}
use lib.ListN.{length-replicate}
use Rattle.words.specs.Edges.{Edge}
use Rattle.lists.specs.Reading.{edges_in}
use Rattle.printout.specs.declared.Unprinted.{Unprinted}
use Rattle.printout.specs.declared.Unprinted.TheVariants.{LongLine, NoMemory}
use Rattle.printout.specs.declared.failure.Failure.{Failure}
use Rattle.printout.specs.Failures.{failure_of, Shown}
use Rattle.printout.specs.Printouts.{printable, printout_of, Puts}
use Rattle.printout.specs.Texts.{line_room, list_text}
use Rattle.printout.proofs.text.list_text.Goals as goal

explained : {V : Type 0} (items : V → List ℕ) (es : List (Edge (List ℕ))) (room : ℕ) (before after : List ℕ) (why : Unprinted) (r : Result V Failure)
    → room ≡ line_room → r ≡ Err (failure_of why) → Puts (printout_of es) (printable room es) before after (Err why) → Shown items (list_text es) r
explained items es room before after LongLine r room_is r_is long =
    let off : printable line_room es ≡ false = ap (λ n. printable n es) (sym room_is) ∙ long in
    rw r_is (λ line told. rw off told)
explained items es room before after NoMemory r room_is r_is put = rw r_is (λ line none. absurd none)

pub returns-in_err-put_list : goal.returns-in_err-put_list
returns-in_err-put_list c =
    let room : length c.deref_mut.result.now ≡ line_room =
    ap length (c.deref_mut.ensures.value ∙ c.in_ok-line.ensures.items_if_clones_equal (λ y e. e)) ∙ length-replicate {A = ℕ} line_room 0 in
    let told : c.from_residual-in_err-put_list.result ≡ Err (failure_of c.in_err-put_list.field-0.0) = search rules in
    explained _ (edges_in c.args.list.words.now) (length c.deref_mut.result.now) (vec_items c.new-text.result) (vec_items c.put_list.new.text) c.in_err-put_list.field-0.0 _ room told
    c.in_err-put_list.ensures
