-- What the calls on the table answer, in the rules' numbers; and how the code's answers are read so.
use Rattle.std.specs.Prelude.{ℕ, Option, Some, None, Result, Ok, Err}
use Rattle.replies.specs.declared.Refusal.{Refusal}
use Rattle.replies.specs.Numbers.{reply_number}
use Rattle.links.specs.declared.Head.{Head}
use Rattle.links.specs.declared.LinkIndex.{LinkIndex}
use Rattle.links.specs.declared.Table.{Table}
use Rattle.links.specs.declared.TableReply.{TableReply}

-- the number, 0 where the call is done; the link if one is given; and the table after the call
pub record Reply : Type 0 where
  pub number : ℕ
  pub link : Option LinkIndex
  pub table : Table

-- refusal-leaves: a refusal gives no link
abbrev pub link_given : Result (Option LinkIndex) Refusal → Option LinkIndex
link_given (Ok link) = link
link_given (Err refusal) = None

abbrev pub reply_of : TableReply → Reply
reply_of r = record { number = reply_number r.answer; link = link_given r.answer; table = r.table }

-- run-start: and a refused start over a run no table
abbrev pub head_given : Result Head Refusal → Option Head
head_given (Ok head) = Some head
head_given (Err refusal) = None
