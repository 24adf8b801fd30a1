-- What each word of a record may hold, by the record's kind.
--
-- target: a class of records that a reference may name. field: what one word may hold.
-- layout: the fields of a kind of record, the head's payload first.
-- admits: whether a field of record r admits a value; a reference names a record below r.
use Rattle.std.specs.Prelude.{◌≡◌, ℕ, ◌+◌, ◌*◌, ◌/◌, ◌%◌, Bool, false, cond, ◌&&◌, ◌||◌, List, ◌==◌, nat_le, nat_lt}
use Rattle.words.specs.declared.Refusal.TheVariants.{Record as Malformed}
use Rattle.words.specs.Checks.{Check, lowest}
use Rattle.words.specs.Words.{kind_of, payload_of, none, tau, observable, exception}
use Rattle.sheet.specs.declared.reader.Record.{Record}
use Rattle.form.specs.declared.field.Target.{Target}
use Rattle.form.specs.declared.field.Target.TheVariants.{Behaviour, Branch, Assignment, Catch}
use Rattle.form.specs.declared.field.Field.{Field}
use Rattle.form.specs.declared.field.Field.TheVariants.{Never, Zero, Number, Weight, Process, Action, Exception, To, Maybe}
use Rattle.form.specs.declared.field.Layout.{Layout}
use Rattle.sheet.specs.Layout.{processes, records, position, record_at}

abbrev pub behaviour_kind : ℕ → Bool
behaviour_kind k = k == 0 || (k == 1 || ((nat_le 4 k && nat_le k 9) || (nat_le 11 k && nat_le k 13)))

abbrev pub belongs : Target → ℕ → Bool
belongs Behaviour k = behaviour_kind k
belongs Branch k = k == 2
belongs Assignment k = k == 3
belongs Catch k = k == 10

abbrev pub row : Field → Field → Field → Field → Layout
row payload one two three = record { payload = payload; one = one; two = two; three = three }

abbrev pub layout_of : ℕ → Layout
layout_of k =
    cond (k == 0) (row Zero Zero Zero Zero)
    (cond (k == 1) (row Zero Action (Maybe Branch) Zero)
    (cond (k == 2) (row Weight (Maybe Assignment) (Maybe Behaviour) (Maybe Branch))
    (cond (k == 3) (row Number Number Zero (Maybe Assignment))
    (cond (k == 4) (row Zero Zero Zero Zero)
    (cond (k == 5) (row Zero Exception Zero Zero)
    (cond (k == 6) (row Zero (To Behaviour) (To Behaviour) Zero)
    (cond (k == 7) (row Zero (To Behaviour) (To Behaviour) Zero)
    (cond (k == 8) (row Zero (To Behaviour) Zero Zero)
    (cond (k == 9) (row Zero (To Behaviour) (To Catch) Zero)
    (cond (k == 10) (row Zero Exception (To Behaviour) (Maybe Catch))
    (cond (k == 11) (row Zero Number (To Behaviour) Zero)
    (cond (k == 12) (row Zero Number (To Behaviour) Zero)
    (cond (k == 13) (row Process Zero Zero Zero)
    (row Never Zero Zero Zero))))))))))))))

abbrev pub refers : List ℕ → ℕ → Target → ℕ → Bool
refers ws r t value = nat_lt value r && belongs t (kind_of (record_at ws value).head)

abbrev pub admits : List ℕ → ℕ → Field → ℕ → Bool
admits ws r Never value = false
admits ws r Zero value = value == 0
admits ws r Number value = kind_of value == 0
admits ws r Weight value = nat_le 1 value && nat_le value 65535
admits ws r Process value = nat_lt value (processes ws)
admits ws r Action value = value == tau || observable value
admits ws r Exception value = exception value
admits ws r (To t) value = refers ws r t value
admits ws r (Maybe t) value = value == none || refers ws r t value

-- word j of record r: the head's payload, or a field
abbrev pub field_of : Layout → ℕ → Field
field_of l j = cond (j == 0) l.payload (cond (j == 1) l.one (cond (j == 2) l.two l.three))

abbrev pub value_of : Record → ℕ → ℕ
value_of x j = cond (j == 0) (payload_of x.head) (cond (j == 1) x.one (cond (j == 2) x.two x.three))

unfoldable pub word_right : List ℕ → ℕ → ℕ → Bool
word_right ws r j = admits ws r (field_of (layout_of (kind_of (record_at ws r).head)) j) (value_of (record_at ws r) j)

-- the words of all records, counted through
unfoldable pub record_check : List ℕ → Check
record_check ws = lowest Malformed (λ k. position ws 0 + k) (4 * records ws) (λ k. word_right ws (k / 4) (k % 4) ≡ false)
