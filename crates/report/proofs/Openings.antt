-- What loading answers of the words that bytes spell is what opening answers of the bytes.
use Rattle.std.proofs.Common.{◌≡◌, ℕ, List, length, replicate, Ok, Err, Result, vec_items, ap, ◌∙◌, subst, inr, MatchResult}
use lib.ListN.{length-replicate}
use Rattle.words.specs.declared.Fault.{Fault}
use Rattle.input.specs.Bytes.{words_of, byte_check}
use Rattle.sheet.specs.Layout.{records}
use Rattle.descent.specs.Records.{down_in}
use Rattle.descent.specs.Sizes.{Filled}
use Rattle.model.specs.declared.Model.{Model}
use Rattle.model.specs.declared.Refused.{Refused}
use Rattle.model.specs.Verdict.{verdict, Accepted, Loading}
use Rattle.printout.specs.declared.failure.Failure.{Failure}
use Rattle.printout.specs.declared.failure.Failure.TheVariants.{Faulty}
use Rattle.std.specs.Result.{IsErrAnd}
use Rattle.report.specs.Opening.{room_for, sheet_check, Opened, Opening}

-- the lent table has the room that the sheet's words ask for
pub room_lent : (bytes ws us t : List ℕ) → ws ≡ words_of bytes → us ≡ ws → t ≡ replicate (room_for us) 0
    → length t ≡ room_for (words_of bytes)
room_lent bytes ws us t spelt same made =
    ap length made ∙ (length-replicate (room_for us) 0 ∙ ap room_for (same ∙ spelt))

opened : (bytes ws t : List ℕ) (m : Model) → byte_check bytes (Ok tt) → ws ≡ words_of bytes
    → length t ≡ room_for (words_of bytes) → Accepted ws (length t) m → Opened bytes m
opened bytes ws t m fours spelt room accepted =
    let there : verdict (words_of bytes) (length t) (Ok tt) = subst (λ x. verdict x (length t) (Ok tt)) spelt accepted.right in
    record {
      right = (fours, subst (λ n. verdict (words_of bytes) n (Ok tt)) room there);
      words = accepted.words ∙ spelt;
      table = subst (λ x. Filled (down_in x (records x)) (vec_items m.table)) spelt accepted.table;
    }

unopened : (bytes ws t : List ℕ) (f : Fault) → byte_check bytes (Ok tt) → ws ≡ words_of bytes
    → length t ≡ room_for (words_of bytes) → verdict ws (length t) (Err f) → sheet_check bytes (Err f)
unopened bytes ws t f fours spelt room wrong =
    let there : verdict (words_of bytes) (length t) (Err f) = subst (λ x. verdict x (length t) (Err f)) spelt wrong in
    inr (fours, subst (λ n. verdict (words_of bytes) n (Err f)) room there)

-- the answer of loading, with the fault of what it gave back
pub opening_of : (Post : Refused → Failure → Type 0) (bytes ws t : List ℕ) (l : Result Model Refused) (r : Result Model Failure) → byte_check bytes (Ok tt) → ws ≡ words_of bytes
    → length t ≡ room_for (words_of bytes) → Loading ws (length t) l → ((e : Refused) (d : Failure) → Post e d → d ≡ Faulty e.fault)
    → MatchResult l (λ m. r ≡ Ok m) (λ e. IsErrAnd r (Post e)) → Opening bytes r
opening_of Post bytes ws t (Ok m) r fours spelt room loading told is = rw is (opened bytes ws t m fours spelt room loading)
opening_of Post bytes ws t (Err e) (Ok m) fours spelt room loading told is = absurd is
opening_of Post bytes ws t (Err e) (Err d) fours spelt room loading told is =
    rw (told e d is) (unopened bytes ws t e.fault fours spelt room loading.wrong)
