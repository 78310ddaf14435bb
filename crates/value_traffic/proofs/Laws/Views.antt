-- The views of what a call with a packet answers forget nothing: two answers that are read alike are one.
use Rattle.std.specs.Prelude.{ℕ, Option, Some, None, Result, Ok, Err}
use mathlib.Core.Path.{◌≡◌, sym, ap}
use Rattle.replies.specs.declared.Refusal.{Refusal}
use Rattle.replies.specs.Numbers.{number_of}
use Rattle.replies.proofs.Laws.Numbers.{number-not_0, number_injective}
use Rattle.links.specs.declared.LinkIndex.{LinkIndex}
use Rattle.traffic.specs.declared.Delivery.{Delivery}
use Rattle.traffic.specs.declared.Fault.{Fault}
use Rattle.traffic.specs.declared.OwnAddress.{OwnAddress}
use Rattle.traffic.specs.declared.Sent.{Sent}
use Rattle.traffic.specs.Replies.{Reception, reception_of, Choice, choice_made, Sending, sending_of, InterfaceAddress, address_of}

abbrev link_or : LinkIndex → Option LinkIndex → LinkIndex
link_or other (Some link) = link
link_or other None = other

-- a fault by its number and its place
same_fault : (f g : Fault) → number_of f.refusal ≡ number_of g.refusal → f.place ≡ g.place → f ≡ g
same_fault f g n p = λ i. record { refusal = number_injective f.refusal g.refusal n i; place = p i }

pub same_reception : (r s : Result Delivery Fault) → reception_of r ≡ reception_of s → r ≡ s
same_reception (Ok d) (Ok c) e =
    ap Ok (λ i. record {
      link = link_or d.link (e i).link;
      length = (e i).length;
      source = (e i).source;
      class = (e i).class;
    })
same_reception (Ok d) (Err f) e = absurd (number-not_0 f.refusal (sym (ap (λ (r : Reception). r.number) e)))
same_reception (Err f) (Ok d) e = absurd (number-not_0 f.refusal (ap (λ (r : Reception). r.number) e))
same_reception (Err f) (Err g) e = ap Err (same_fault f g (ap (λ (r : Reception). r.number) e) (ap (λ (r : Reception). r.place) e))

pub same_choice : (r s : Result LinkIndex Fault) → choice_made r ≡ choice_made s → r ≡ s
same_choice (Ok l) (Ok k) e = ap Ok (λ i. link_or l (e i).link)
same_choice (Ok l) (Err f) e = absurd (number-not_0 f.refusal (sym (ap (λ (r : Choice). r.number) e)))
same_choice (Err f) (Ok l) e = absurd (number-not_0 f.refusal (ap (λ (r : Choice). r.number) e))
same_choice (Err f) (Err g) e = ap Err (same_fault f g (ap (λ (r : Choice). r.number) e) (ap (λ (r : Choice). r.place) e))

pub same_sending : (r s : Result Sent Fault) → sending_of r ≡ sending_of s → r ≡ s
same_sending (Ok a) (Ok b) e =
    ap Ok (λ i. record {
      transport = (e i).transport;
      destination = (e i).destination;
      class = (e i).class;
      length = (e i).length;
    })
same_sending (Ok a) (Err f) e = absurd (number-not_0 f.refusal (sym (ap (λ (r : Sending). r.number) e)))
same_sending (Err f) (Ok a) e = absurd (number-not_0 f.refusal (ap (λ (r : Sending). r.number) e))
same_sending (Err f) (Err g) e = ap Err (same_fault f g (ap (λ (r : Sending). r.number) e) (ap (λ (r : Sending). r.place) e))

pub same_address : (r s : Result OwnAddress Refusal) → address_of r ≡ address_of s → r ≡ s
same_address (Ok a) (Ok b) e = ap Ok (λ i. record { mid = (e i).mid; address = (e i).address })
same_address (Ok a) (Err f) e = absurd (number-not_0 f (sym (ap (λ (r : InterfaceAddress). r.number) e)))
same_address (Err f) (Ok a) e = absurd (number-not_0 f (ap (λ (r : InterfaceAddress). r.number) e))
same_address (Err f) (Err g) e = ap Err (number_injective f g (ap (λ (r : InterfaceAddress). r.number) e))
