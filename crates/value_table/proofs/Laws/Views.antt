-- The view of what a call on the table answers forgets nothing: two answers that are read alike are one.
use mathlib.Core.Path.{◌≡◌, sym, ◌∙◌, ap}
use Rattle.replies.proofs.Laws.Numbers.{same_reply}
use Rattle.links.specs.declared.TableReply.{TableReply}
use Rattle.links.specs.Replies.{Reply, link_given, reply_of}

pub same_table_reply : (r s : TableReply) → reply_of r ≡ reply_of s → r ≡ s
same_table_reply r s e =
    let link = ap (λ (q : Reply). q.link) e in
    let answer = same_reply r.answer s.answer (ap (λ (q : Reply). q.number) e) (λ x y p q. ap link_given (sym p) ∙ link ∙ ap link_given q) in
    λ i. record { answer = answer i; table = (e i).table }
