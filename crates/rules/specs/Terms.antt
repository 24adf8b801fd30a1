-- What the records of a sheet say, as process terms: one constructor for each kind of behaviour.
--
-- term: a behaviour's kind with its actions and conditions; what it is made of stands as record numbers.
-- In all files `term r` is what record r says.
-- way: one branch of an act: its weight, its assignments, and the record that it goes on with, if any.
-- clause: one catch of a try: an exception and the record that handles it.
-- below: the records to which a term descends, whose edges its own are made from.
-- role: what a term does as a frame: under a seq what is done goes on with another record, under a loop it starts
-- again, a try catches; any other term is no frame.
use Rattle.std.specs.Prelude.{ℕ, Bool, true, false, List, [], ◌∷◌, Option}

pub record Way : Type 0 where
  pub weight : ℕ
  pub assignments : List (ℕ × ℕ)
  pub successor : Option ℕ

pub record Clause : Type 0 where
  pub catches : ℕ
  pub handler : ℕ

pub data Term : Type 0 where
  Stop : Term
  Act : (action : ℕ) (ways : List Way) → Term
  Break : Term
  Throw : (exception : ℕ) → Term
  Alt : (one two : ℕ) → Term
  Seq : (body after : ℕ) → Term
  Loop : (body : ℕ) → Term
  Try : (body : ℕ) (clauses : List Clause) → Term
  When : (condition body : ℕ) → Term
  Urgent : (condition body : ℕ) → Term
  Call : (body : ℕ) → Term

abbrev pub below : Term → List ℕ
below Stop = []
below (Act a ws) = []
below Break = []
below (Throw x) = []
below (Alt a b) = a ∷ b ∷ []
below (Seq a b) = a ∷ []
below (Loop a) = a ∷ []
below (Try a cs) = a ∷ []
below (When c a) = a ∷ []
below (Urgent c a) = a ∷ []
below (Call a) = a ∷ []

pub data Role : Type 0 where
  Onward : (after : ℕ) → Role
  Again : Role
  Catching : (clauses : List Clause) → Role
  Unframed : Role

abbrev pub role_of : Term → Role
role_of Stop = Unframed
role_of (Act a ws) = Unframed
role_of Break = Unframed
role_of (Throw x) = Unframed
role_of (Alt a b) = Unframed
role_of (Seq a b) = Onward b
role_of (Loop a) = Again
role_of (Try a cs) = Catching cs
role_of (When c a) = Unframed
role_of (Urgent c a) = Unframed
role_of (Call a) = Unframed

abbrev pub framing : Role → Bool
framing (Onward b) = true
framing Again = true
framing (Catching cs) = true
framing Unframed = false

-- a seq, a loop or a try
abbrev pub is_frame : Term → Bool
is_frame t = framing (role_of t)
