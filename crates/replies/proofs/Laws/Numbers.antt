-- The numbers of refusals: none is 0, and no two refusals have one number.
use Rattle.std.specs.Prelude.{ℕ, ◌<◌, ◌≡◌, ◌≢◌, List, [], ◌∷◌, ◌++◌, cond, eqb, refl, Result, Ok, Err}
use native.Mathlib.Omega.{arith}
use mathlib.Core.Path.{sym, ◌∙◌, ap}
use lib.Dec.{lit<}
use Rattle.replies.specs.declared.Refusal.{Refusal}
use Rattle.replies.specs.declared.Refusal.TheVariants.{ValueOutOfRange, AreaNotGood, PrefixNotGood, AreaInUse, PrefixOverlaps, NoIndexFree, NoSuchLink, PacketTooLong, AddressNotAllowed, AreaMissing, NeighbourUnknown, NoRoom, RecordBroken, FixedLink, OutOfTurn, PacketShort, VersionNot6, LengthFieldWrong, RunTooShort, QueueFull, QueuesEmpty, TooManyPrefixes, KindRetired, QueueNotGood}
use Rattle.replies.specs.Numbers.{number_of, reply_number}
use Rattle.replies.specs.Rules.{Rule, refusal}
use Rattle.replies.proofs.Laws.Refusals.{Numbered, by_first, by_second}

abbrev all : List Refusal
all = ValueOutOfRange ∷ AreaNotGood ∷ PrefixNotGood ∷ AreaInUse ∷ PrefixOverlaps ∷ NoIndexFree ∷ NoSuchLink ∷ PacketTooLong ∷ AddressNotAllowed ∷ AreaMissing ∷ NeighbourUnknown ∷ NoRoom ∷ RecordBroken ∷ FixedLink ∷ OutOfTurn ∷ PacketShort ∷ VersionNot6 ∷ LengthFieldWrong ∷ RunTooShort ∷ QueueFull ∷ QueuesEmpty ∷ TooManyPrefixes ∷ KindRetired ∷ QueueNotGood ∷ []

-- the first of these refusals that has the number
abbrev with_number : List Refusal → ℕ → Refusal
with_number [] n = ValueOutOfRange
with_number (e ∷ es) n = cond (eqb (number_of e) n) e (with_number es n)

-- its number is not 0, and tells the refusal
own_number : (e : Refusal) → (0 < number_of e) × (with_number all (number_of e) ≡ e)
own_number ValueOutOfRange = (lit< tt, refl)
own_number AreaNotGood = (lit< tt, refl)
own_number PrefixNotGood = (lit< tt, refl)
own_number AreaInUse = (lit< tt, refl)
own_number PrefixOverlaps = (lit< tt, refl)
own_number NoIndexFree = (lit< tt, refl)
own_number NoSuchLink = (lit< tt, refl)
own_number PacketTooLong = (lit< tt, refl)
own_number AddressNotAllowed = (lit< tt, refl)
own_number AreaMissing = (lit< tt, refl)
own_number NeighbourUnknown = (lit< tt, refl)
own_number NoRoom = (lit< tt, refl)
own_number RecordBroken = (lit< tt, refl)
own_number FixedLink = (lit< tt, refl)
own_number OutOfTurn = (lit< tt, refl)
own_number PacketShort = (lit< tt, refl)
own_number VersionNot6 = (lit< tt, refl)
own_number LengthFieldWrong = (lit< tt, refl)
own_number RunTooShort = (lit< tt, refl)
own_number QueueFull = (lit< tt, refl)
own_number QueuesEmpty = (lit< tt, refl)
own_number TooManyPrefixes = (lit< tt, refl)
own_number KindRetired = (lit< tt, refl)
own_number QueueNotGood = (lit< tt, refl)

pub number_positive : (e : Refusal) → 0 < number_of e
number_positive e = (own_number e).0

pub number-not_0 : (e : Refusal) → number_of e ≢ 0
number-not_0 e z = let more = number_positive e in absurd (omega arith)

pub number_injective : (e f : Refusal) → number_of e ≡ number_of f → e ≡ f
number_injective e f same = sym (own_number e).1 ∙ ap (with_number all) same ∙ (own_number f).1

-- what a reply's number says of it
pub done : {A : Type 0} (r : Result A Refusal) → reply_number r ≡ 0 → (x : A) × (r ≡ Ok x)
done (Ok x) z = (x, refl)
done (Err e) z = absurd (number-not_0 e z)

pub refused : {A : Type 0} (r : Result A Refusal) → reply_number r ≢ 0 → (e : Refusal) × (r ≡ Err e)
refused (Ok x) n = absurd (n refl)
refused (Err e) n = (e, refl)

-- the refusal with a number
pub refused_by : {A : Type 0} (r : Result A Refusal) (e : Refusal) → reply_number r ≡ number_of e → r ≡ Err e
refused_by (Ok x) e n = absurd (number-not_0 e (sym n))
refused_by (Err d) e n = ap Err (number_injective d e n)

-- two replies with one number are equal, if what they give is
pub same_reply : {A : Type 0} (r s : Result A Refusal) → reply_number r ≡ reply_number s → ((x y : A) → r ≡ Ok x → s ≡ Ok y → x ≡ y) → r ≡ s
same_reply (Ok x) (Ok y) n given = ap Ok (given x y refl refl)
same_reply (Ok x) (Err e) n given = absurd (number-not_0 e (sym n))
same_reply (Err e) (Ok x) n given = absurd (number-not_0 e n)
same_reply (Err e) (Err f) n given = ap Err (number_injective e f n)

-- code asks one list of rules and then the next: what the first refuses, both refuse, and what it lets through, the next decides
pub first_refuses : (rs more : List Rule) (e : Refusal) → number_of e ≡ refusal rs → number_of e ≡ refusal (rs ++ more)
first_refuses rs more e n = by_first rs more (number_of e) n (number-not_0 e)

pub next_decides : (rs more : List Rule) (n : ℕ) → Numbered rs → 0 ≡ refusal rs → n ≡ refusal more → n ≡ refusal (rs ++ more)
next_decides rs more n numbered none next = by_second rs more 0 n numbered none refl next
