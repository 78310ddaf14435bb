-- What private functions of this crate answer, in the words of `queues`.
use Rattle.std.specs.Prelude.{ℕ, ◌+◌, Result, Ok, Err}
use Rattle.replies.specs.declared.Refusal.{Refusal}

-- the bytes held after a call that adds
abbrev pub held_after : ℕ → Result ℕ Refusal → ℕ
held_after before (Ok after) = after
held_after before (Err refusal) = before

-- a place of memory so many bytes behind another: a block and a place in it
abbrev pub behind : {Block : Type 0} → Block × ℕ → ℕ → Block × ℕ
behind p n = (p.0, n + p.1)
