-- RULES, Replies: the number of each refusal, and of a reply: 0 where it is done.
use Rattle.std.specs.Prelude.{ℕ, Result, Ok, Err}
use Rattle.replies.specs.declared.Refusal.{Refusal}
use Rattle.replies.specs.declared.Refusal.TheVariants.{ValueOutOfRange, AreaNotGood, PrefixNotGood, AreaInUse, PrefixOverlaps, NoIndexFree, NoSuchLink, PacketTooLong, AddressNotAllowed, AreaMissing, NeighbourUnknown, NoRoom, RecordBroken, FixedLink, OutOfTurn, PacketShort, VersionNot6, LengthFieldWrong, RunTooShort, QueueFull, QueuesEmpty, TooManyPrefixes, KindRetired, QueueNotGood}

abbrev pub number_of : Refusal → ℕ
number_of ValueOutOfRange = 1
number_of AreaNotGood = 2
number_of PrefixNotGood = 3
number_of AreaInUse = 4
number_of PrefixOverlaps = 5
number_of NoIndexFree = 6
number_of NoSuchLink = 7
number_of PacketTooLong = 9
number_of AddressNotAllowed = 10
number_of AreaMissing = 11
number_of NeighbourUnknown = 12
number_of NoRoom = 13
number_of RecordBroken = 14
number_of FixedLink = 15
number_of OutOfTurn = 16
number_of PacketShort = 20
number_of VersionNot6 = 21
number_of LengthFieldWrong = 22
number_of RunTooShort = 23
number_of QueueFull = 24
number_of QueuesEmpty = 25
number_of TooManyPrefixes = 29
number_of KindRetired = 30
number_of QueueNotGood = 37

-- of a call that is done or refused
abbrev pub reply_number : {A : Type 0} → Result A Refusal → ℕ
reply_number (Ok x) = 0
reply_number (Err refusal) = number_of refusal
