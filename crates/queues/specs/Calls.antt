-- RULES, Two queues: adding, showing and taking. Refusals in their order, the state after a call, and every byte of the queues.
use Rattle.std.specs.Prelude.{ℕ, ◌+◌, ◌-◌, Bool, false, cond, not, ◌&&◌, ◌||◌, List, [], ◌++◌, eqb, leb, ltb, length, take, drop, Option, Some, None}
use Rattle.replies.specs.Rules.{Rule, ◌if◌, ◌then◌, refusal}
use Rattle.queues.specs.declared.State.{State}
use Rattle.queues.specs.Replies.{Reply, Shown}
use Rattle.queues.specs.Packets.{packed, front, good}

-- queue-state
abbrev pub empty : State
empty = record { control = 0; film = 0; row = 0 }

-- Adding, to one queue

-- one queue after a call on it
pub record Queue : Type 0 where
  pub number : ℕ
  pub held : ℕ
  pub bytes : List ℕ

-- queue-add-refusals
abbrev pub add_rules : ℕ → List ℕ → List ℕ → List Rule
add_rules held queue p =
    37 if not (good held queue) then
    9 if ltb 1280 (length p) then
    24 if ltb 4096 (held + length (packed p)) then
    []

-- queue-add: behind the bytes held, and all other bytes as they were
abbrev pub laid : ℕ → List ℕ → List ℕ → List ℕ
laid held queue p = take held queue ++ packed p ++ drop (held + length (packed p)) queue

abbrev pub add_unless : ℕ → ℕ → List ℕ → List ℕ → Queue
add_unless number held queue p =
    cond (eqb number 0)
    (record { number = 0; held = held + length (packed p); bytes = laid held queue p })
    (record { number = number; held = held; bytes = queue })

unfoldable pub add : ℕ → List ℕ → List ℕ → Queue
add held queue p = add_unless (refusal (add_rules held queue p)) held queue p

unfoldable pub add_to_control : State → List ℕ → List ℕ → Reply
add_to_control s queue p = record {
  number = (add s.control queue p).number;
  state = record { control = (add s.control queue p).held; film = s.film; row = s.row };
}

unfoldable pub add_to_film : State → List ℕ → List ℕ → Reply
add_to_film s queue p = record {
  number = (add s.film queue p).number;
  state = record { control = s.control; film = (add s.film queue p).held; row = s.row };
}

-- Showing

-- queue-next-refusals
abbrev pub next_rules : State → List ℕ → List ℕ → List Rule
next_rules s control film =
    37 if not (good s.control control && good s.film film) then
    25 if (eqb s.control 0 && eqb s.film 0) then
    []

-- queue-next: film waits, and control is empty or has had its row
abbrev pub film_goes : State → Bool
film_goes s = not (eqb s.film 0) && (eqb s.control 0 || leb 4 s.row)

abbrev pub shown_at : Bool → Option (ℕ × ℕ) → Shown
shown_at inFilm (Some (n, k)) = record { number = 0; film = inFilm; at = k; length = n }
shown_at inFilm None = record { number = 0; film = inFilm; at = 0; length = 0 }

-- the bytes held in the queue that the next packet goes from
abbrev pub next_held : State → List ℕ → List ℕ → List ℕ
next_held s control film = cond (film_goes s) (take s.film film) (take s.control control)

abbrev pub show_unless : ℕ → State → List ℕ → List ℕ → Shown
show_unless number s control film =
    cond (eqb number 0) (shown_at (film_goes s) (front (next_held s control film))) (record { number = number; film = false; at = 0; length = 0 })

-- queue-show
unfoldable pub show : State → List ℕ → List ℕ → Shown
show s control film = show_unless (refusal (next_rules s control film)) s control film

-- the packet shown: these bytes of one of the two
abbrev pub part_of : Shown → List ℕ → List ℕ → List ℕ
part_of d control film = take d.length (drop d.at (cond d.film film control))

-- where that is, given where the two queues lie: a place of memory is a block and a place in it
abbrev pub place_of : {Block : Type 0} → Shown → Block × ℕ → Block × ℕ → Block × ℕ
place_of d control film = (cond d.film film.0 control.0, d.at + cond d.film film.1 control.1)

-- Taking

-- queue-take: n bytes go, the held ones behind them move down, and the bytes past those then held stay
abbrev pub moved_down : ℕ → ℕ → List ℕ → List ℕ
moved_down n held queue = drop n (take held queue) ++ drop (held - n) queue

-- queue-row
abbrev pub row_after : State → ℕ
row_after s = cond (film_goes s || eqb s.film 0) 0 (s.row + 1)

-- both queues after a call on them
pub record Queues : Type 0 where
  pub reply : Reply
  pub control : List ℕ
  pub film : List ℕ

abbrev pub take_shown : Shown → State → List ℕ → List ℕ → Queues
take_shown d s control film =
    let n = d.at + d.length in
    cond (eqb d.number 0)
    (cond d.film
    (record { reply = record { number = 0; state = record { control = s.control; film = s.film - n; row = row_after s } }; control = control; film = moved_down n s.film film })
    (record { reply = record { number = 0; state = record { control = s.control - n; film = s.film; row = row_after s } }; control = moved_down n s.control control; film = film }))
    (record { reply = record { number = d.number; state = s }; control = control; film = film })

unfoldable pub take_next : State → List ℕ → List ℕ → Queues
take_next s control film = take_shown (show s control film) s control film
