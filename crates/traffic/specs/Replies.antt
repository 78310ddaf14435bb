-- What the calls with a packet answer, in the rules' numbers; and how the code's answers are read so. A refusal gives its number and
-- the place of the fault, and of everything else nothing.
use Rattle.std.specs.Prelude.{ℕ, List, Option, Some, None, Result, Ok, Err, replicate}
use Rattle.replies.specs.declared.Refusal.{Refusal}
use Rattle.replies.specs.Numbers.{number_of}
use Rattle.links.specs.declared.LinkIndex.{LinkIndex}
use Rattle.traffic.specs.declared.Delivery.{Delivery}
use Rattle.traffic.specs.declared.Destination.{Destination}
use Rattle.traffic.specs.declared.Destination.TheVariants.{Nothing}
use Rattle.traffic.specs.declared.Fault.{Fault}
use Rattle.traffic.specs.declared.OwnAddress.{OwnAddress}
use Rattle.traffic.specs.declared.Sent.{Sent}

-- of an indication
pub record Reception : Type 0 where
  pub number : ℕ
  pub place : ℕ
  pub link : Option LinkIndex
  pub length : ℕ
  pub source : ℕ
  pub class : ℕ

abbrev pub reception_of : Result Delivery Fault → Reception
reception_of (Ok d) = record { number = 0; place = 0; link = Some d.link; length = d.length; source = d.source; class = d.class }
reception_of (Err f) = record { number = number_of f.refusal; place = f.place; link = None; length = 0; source = 0; class = 0 }

-- of the question for the link of an indication
pub record Choice : Type 0 where
  pub number : ℕ
  pub place : ℕ
  pub link : Option LinkIndex

abbrev pub choice_made : Result LinkIndex Fault → Choice
choice_made (Ok link) = record { number = 0; place = 0; link = Some link }
choice_made (Err f) = record { number = number_of f.refusal; place = f.place; link = None }

-- of a request
pub record Sending : Type 0 where
  pub number : ℕ
  pub place : ℕ
  pub transport : ℕ
  pub destination : Destination
  pub class : ℕ
  pub length : ℕ

abbrev pub sending_of : Result Sent Fault → Sending
sending_of (Ok s) = record { number = 0; place = 0; transport = s.transport; destination = s.destination; class = s.class; length = s.length }
sending_of (Err f) = record { number = number_of f.refusal; place = f.place; transport = 0; destination = Nothing; class = 0; length = 0 }

-- of the question for the interface address of a link
pub record InterfaceAddress : Type 0 where
  pub number : ℕ
  pub mid : ℕ
  pub address : List ℕ

abbrev pub address_of : Result OwnAddress Refusal → InterfaceAddress
address_of (Ok a) = record { number = 0; mid = a.mid; address = a.address }
address_of (Err refusal) = record { number = number_of refusal; mid = 0; address = replicate 16 0 }
