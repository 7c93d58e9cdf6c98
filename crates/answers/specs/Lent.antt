-- What is lent, and the convention for answers in a lent slice. A call gives a list of words or a refusal. Given, the
-- words stand in the slice's first places, what follows stays, and the answer is how many they are. Refused, the answer
-- is the refusal and the slice stays as it was.
use Rattle.std.specs.Prelude.{ℕ, ◌≡◌, List, ◌++◌, ltb, length, drop, Ok, Err}
use Rattle.std.specs.Borrow.{MutBor}
use denote.Triple.Both.{Both}
use Rattle.answers.specs.declared.Refusal.TheVariants.{NoRoom}
use Rattle.answers.specs.Refusals.{Check, check, Outcome, Verdict, unless, over}

-- what a call borrows, at its entry and at its exit; a slice of words or of bytes
abbrev pub Lent : Type 0 → Type 0
Lent A = Both (MutBor A) (MutBor A)

abbrev pub Slice : Type 0
Slice = Lent (List ℕ)

-- what it holds when the call begins, and what is left in it when the call is over
abbrev pub held : {A : Type 0} → Lent A → A
held s = s.entry.now

abbrev pub left : {A : Type 0} → Lent A → A
left s = s.exit.now

-- how many words a slice takes
abbrev pub room : Slice → ℕ
room s = length (held s)

-- what a call answers that lists words
abbrev pub counted : Outcome (List ℕ) → Outcome ℕ
counted = over length

-- what a slice holds afterwards: given, the words in front and the rest as it was; refused, all as it was
abbrev pub written : Outcome (List ℕ) → List ℕ → List ℕ
written (Ok l) slice = l ++ drop (length l) slice
written (Err r) slice = slice

abbrev pub Fills : Outcome (List ℕ) → Slice → Type 0
Fills o s = left s ≡ written o (held s)

-- a slice into which nothing is written
abbrev pub Stays : Slice → Type 0
Stays s = left s ≡ held s

-- whether a call is refused, and by what, without what it gives
abbrev pub verdict_of : {A : Type 0} → Outcome A → Verdict
verdict_of (Ok a) = Ok (tt {0})
verdict_of (Err r) = Err r

-- the verdict of some checks alone
abbrev pub judged : List Check → Verdict
judged checks = verdict_of (unless checks (tt {0}))

-- what a call gives, or another value where it is refused
abbrev pub result_or : {A : Type 0} → A → Outcome A → A
result_or other (Ok a) = a
result_or other (Err r) = other

-- the check for room: the slice is too short for the words (9)
abbrev pub room_check : ℕ → List ℕ → Check
room_check room l = check (ltb room (length l)) NoRoom
