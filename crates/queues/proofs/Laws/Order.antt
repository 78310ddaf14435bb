-- One call on a channel in which packets wait: adding puts its packet last, taking takes the one that is shown from the front of its
-- queue, and nothing else changes. So in every channel that calls reach packets wait, and adding leaves all that can wait.
use Rattle.std.specs.Prelude.{Some}
use Prim.Native.Nat.{ℕ, zero, suc, ◌+◌, ◌-◌, ◌≤◌}
use native.Mathlib.Omega.{arith}
use mathlib.Core.Path.{◌≡◌, refl, sym, ◌∙◌, ap, subst₂}
use mathlib.Core.Logic.{◌⊎◌, inl, inr, ◌↔◌, ◌≢◌}
use mathlib.Core.Bool.{Bool, true, false, cond, not, and_comm}
use mathlib.Core.List.{List, [], ◌∷◌, ◌++◌, map, append_assoc, append-nil}
use lib.Dec.{eqb}
use lib.ListN.{length, take, drop, length-append, length-take, length-drop, take-append-drop}
use lib.Seq.{length-take-le, take_at, drop_at}
use borrow.Author.Tests.{leb-true, leb-false, ltb-false, le-ltb, lt-leb, eq-eqb, ne_eqb}
use Rattle.replies.specs.Rules.{refusal}
use Rattle.replies.proofs.Laws.Refusals.{done-exactly}
use Rattle.numbers.specs.Numbers.{number_bytes}
use Rattle.queues.specs.declared.State.{State}
use Rattle.queues.specs.Replies.{Shown}
use Rattle.queues.specs.Packets.{packed, queued, Short, Left, front}
use Rattle.queues.specs.Calls.{empty, add_rules, laid, add, add_to_control, add_to_film, next_rules, film_goes, shown_at, show, part_of, moved_down, row_after, take_shown, take_next}
use Rattle.queues.specs.Channel.{Channel, Call, AddToControl, AddToFilm, Show, Take, number, after, Sent, FromControl, FromFilm, shown, sends, played, Waiting, Reached, begun, called, ReachedWaits, AddingLeaves}
use Rattle.queues.specs.Order.{AddsLast, Goes, control-first, film-after_four, control-alone, film-alone, TakesNext, QueuesInOrder}
use Rattle.queues.proofs.Laws.Packets.{length-packed, packed_some, queued-append, short-append, front-packed, behind-length, left_good}
use Rattle.queues.proofs.Laws.Refusals.{add-number, add-refused, show-number, take-number, take-refused}

-- One queue: adding

module _ {held : ℕ} {queue : List ℕ} {ps : List (List ℕ)} (p : List ℕ) (h : Left held queue ps) where
  -- what is not refused fits, and is laid down
  record Lays : Type 0 where
    short : length p ≤ 1280
    fits : held + length (packed p) ≤ 4096
    more : (add held queue p).held ≡ held + length (packed p)
    bytes : (add held queue p).bytes ≡ laid held queue p

  lays : (add held queue p).number ≡ 0 → Lays
  unfolding add
  lays e =
      let done : refusal (add_rules held queue p) ≡ 0 = sym (add-number held queue p) ∙ e in
      let none = (done-exactly (add_rules held queue p) (omega arith)).0 done in
      record {
        short = omega (arith, ltb-false, leb-false);
        fits = omega (arith, ltb-false, leb-false);
        more = rw done;
        bytes = rw done;
      }

  pub add-fits : length p ≤ 1280 → held + length (packed p) ≤ 4096 → (add held queue p).number ≡ 0
  add-fits s f =
      add-number held queue p
      ∙ (done-exactly (add_rules held queue p) (omega arith)).1 (ap not (left_good h), (omega (arith, le-ltb, lt-leb), (omega (arith, le-ltb, lt-leb), tt)))

  laid-front : length (take held queue ++ packed p) ≡ held + length (packed p)
  laid-front = rw (length-append (take held queue) (packed p), length-take-le held queue (omega arith))

  pub add_left : (add held queue p).number ≡ 0 → Left (add held queue p).held (add held queue p).bytes (ps ++ p ∷ [])
  unfolding queued
  add_left e =
      let l = lays e in
      let size : length (laid held queue p) ≡ 4096 = simp (length-append, length-take, length-drop) (omega arith) in
      rw (l.more, l.bytes) record {
        size = size;
        within = l.fits;
        holds = record {
          are =
              take_at (take held queue ++ packed p) _ _ laid-front
              ∙ rw (h.holds.are, queued-append ps (p ∷ []), append-nil (packed p));
          short = short-append ps (p ∷ []) h.holds.short (l.short, tt);
        };
      }

  pub add_past : drop (add held queue p).held (add held queue p).bytes ≡ drop (add held queue p).held queue
  add_past = go (add held queue p).number refl
    where
      go : (n : ℕ) → (add held queue p).number ≡ n → drop (add held queue p).held (add held queue p).bytes ≡ drop (add held queue p).held queue
      go zero e = rw ((lays e).more, (lays e).bytes) (drop_at (take held queue ++ packed p) _ _ laid-front)
      go (suc n) e = rw (add-refused held queue p (λ z. omega arith)).1

-- One queue: what waits in it, and taking

-- where the packet in front begins and ends
abbrev pub begins : List ℕ → ℕ
begins p = length (number_bytes (length p))

abbrev pub ends : List ℕ → ℕ
ends p = begins p + length p

held-are : {held : ℕ} {queue : List ℕ} {ps : List (List ℕ)} → Left held queue ps → held ≡ length (queued ps)
held-are {held} {queue} h = sym (length-take-le held queue (omega arith)) ∙ ap length h.holds.are

-- nothing is held where nothing waits
none-held : {held : ℕ} {queue : List ℕ} → Left held queue [] → held ≡ 0
unfolding queued
none-held h = held-are h

module _ {held : ℕ} {queue p : List ℕ} {ps : List (List ℕ)} (h : Left held queue (p ∷ ps)) where
  pub some_held : held ≢ 0
  unfolding queued
  some_held e = omega (arith, held-are h, length-append (packed p) (queued ps), packed_some p)

  pub next-front : front (take held queue) ≡ Some (length p, begins p)
  unfolding queued
  next-front = rw h.holds.are (front-packed p (queued ps) h.holds.short.0)

  -- the packet shown
  pub next_part : take (length p) (drop (begins p) queue) ≡ p
  unfolding queued
  next_part =
      let is : queue ≡ packed p ++ (queued ps ++ drop held queue) =
      sym (take-append-drop held queue) ∙ rw h.holds.are (append_assoc (packed p) (queued ps) (drop held queue)) in
      ap (λ (l : List ℕ). take (length p) (drop (begins p) l)) is
      ∙ rw (behind-length p (queued ps ++ drop held queue)) (take_at p _ _ refl)

  left_over : drop (ends p) (take held queue) ≡ queued ps
  unfolding queued
  left_over = rw h.holds.are (drop_at (packed p) (queued ps) _ (length-packed p))

  left_length : length (queued ps) ≡ held - ends p
  unfolding queued
  left_length = omega (arith, held-are h, length-append (packed p) (queued ps), length-packed p)

  moved : moved_down (ends p) held queue ≡ queued ps ++ drop (held - ends p) queue
  moved = ap (λ (l : List ℕ). l ++ drop (held - ends p) queue) left_over

  pub take_left : Left (held - ends p) (moved_down (ends p) held queue) ps
  take_left = record {
    size = ap length moved ∙ simp (length-append, length-drop) (omega (arith, left_length));
    within = omega arith;
    holds = record { are = ap (take (held - ends p)) moved ∙ take_at (queued ps) _ _ left_length; short = h.holds.short.1 };
  }

  pub take_past : drop (held - ends p) (moved_down (ends p) held queue) ≡ drop (held - ends p) queue
  take_past = ap (drop (held - ends p)) moved ∙ drop_at (queued ps) _ _ left_length

-- Both queues

-- where packets wait, only nothing waiting is refused
next-none : {c : Channel} → Waiting c [] [] → refusal (next_rules c.state c.control c.film) ≡ 25
next-none {c} w = rw (left_good w.control, left_good w.film, eq-eqb c.state.control 0 (none-held w.control), eq-eqb c.state.film 0 (none-held w.film))

next_some : {c : Channel} {cs fs : List (List ℕ)} → Waiting c cs fs → (c.state.control ≢ 0) ⊎ (c.state.film ≢ 0) → refusal (next_rules c.state c.control c.film) ≡ 0
next_some {c} w (inl h) = rw (left_good w.control, left_good w.film, ne_eqb c.state.control 0 h)
next_some {c} w (inr h) = rw (left_good w.control, left_good w.film, ne_eqb c.state.film 0 h, and_comm (eqb c.state.control 0) false)

-- what is shown is the packet in front of the queue that goes
shows : (s : State) (control film : List ℕ) (g : Bool) (p : List ℕ) → refusal (next_rules s control film) ≡ 0 → film_goes s ≡ g
    → front (cond g (take s.film film) (take s.control control)) ≡ Some (length p, begins p)
    → show s control film ≡ record { number = 0; film = g; at = begins p; length = length p }
unfolding show
shows s control film g p done goes is = rw (done, goes) (ap (shown_at g) is)

-- what is taken is what is shown
abbrev leaves : Channel → Shown → Channel
leaves c d = record {
  state = (take_shown d c.state c.control c.film).reply.state;
  control = (take_shown d c.state c.control c.film).control;
  film = (take_shown d c.state c.control c.film).film;
}

abbrev sent : Channel → Shown → Sent
sent c d = cond d.film (FromFilm (part_of d c.control c.film)) (FromControl (part_of d c.control c.film))

module _ (c : Channel) {d : Shown} (e : show c.state c.control c.film ≡ d) where
  take_leaves : after c Take ≡ leaves c d
  unfolding after take_next
  take_leaves = ap (leaves c) e

  shown_is : shown c ≡ sent c d
  unfolding shown
  shown_is = ap (sent c) e

  take_is : number c Take ≡ d.number
  unfolding number
  take_is = take-number c.state c.control c.film ∙ ap (λ (x : Shown). x.number) e

module _ {c : Channel} {p : List ℕ} {cs fs : List (List ℕ)} (w : Waiting c (p ∷ cs) fs) (g : film_goes c.state ≡ false) where
  control-shown : show c.state c.control c.film ≡ record { number = 0; film = false; at = begins p; length = length p }
  control-shown = shows c.state c.control c.film false p (next_some w (inl (some_held w.control))) g (next-front w.control)

  control-sent : shown c ≡ FromControl p
  control-sent = shown_is c control-shown ∙ ap FromControl (next_part w.control)

  control-goes : Goes (p ∷ cs) fs c.state.row (FromControl p) cs fs (row_after c.state) → (number c Take ≡ 0) × TakesNext c (p ∷ cs) fs
  control-goes goes =
      let left = take_leaves c control-shown in (
        take_is c control-shown,
        record {
          cs' = cs;
          fs' = fs;
          goes = rw (left, control-sent) goes;
          waiting = rw left record { control = take_left w.control; film = w.film };
          past_control = rw left (take_past w.control);
          past_film = rw left;
          untouched = rw (left, control-sent) (refl, refl);
        },
      )

module _ {c : Channel} {f : List ℕ} {cs fs : List (List ℕ)} (w : Waiting c cs (f ∷ fs)) (g : film_goes c.state ≡ true) where
  film-shown : show c.state c.control c.film ≡ record { number = 0; film = true; at = begins f; length = length f }
  film-shown = shows c.state c.control c.film true f (next_some w (inr (some_held w.film))) g (next-front w.film)

  film-sent : shown c ≡ FromFilm f
  film-sent = shown_is c film-shown ∙ ap FromFilm (next_part w.film)

  film_goes_lem : Goes cs (f ∷ fs) c.state.row (FromFilm f) cs fs (row_after c.state) → (number c Take ≡ 0) × TakesNext c cs (f ∷ fs)
  film_goes_lem goes =
      let left = take_leaves c film-shown in (
        take_is c film-shown,
        record {
          cs' = cs;
          fs' = fs;
          goes = rw (left, film-sent) goes;
          waiting = rw left record { control = w.control; film = take_left w.film };
          past_control = rw left;
          past_film = rw left (take_past w.film);
          untouched = rw (left, film-sent) (refl, refl);
        },
      )

-- which of the two goes
takes : (c : Channel) (cs fs : List (List ℕ)) → Waiting c cs fs → (cs ≢ []) ⊎ (fs ≢ []) → (number c Take ≡ 0) × TakesNext c cs fs
takes c [] [] w (inl h) = absurd (h refl)
takes c [] [] w (inr h) = absurd (h refl)
takes c [] (f ∷ fs) w h =
    let none = eq-eqb c.state.control 0 (none-held w.control) in
    let some = ne_eqb c.state.film 0 (some_held w.film) in
    film_goes_lem w (simp (none, some)) (simp (none, some) film-alone)
takes c (p ∷ cs) [] w h =
    let none = eq-eqb c.state.film 0 (none-held w.film) in
    control-goes w (simp none) (simp none control-alone)
takes c (p ∷ cs) (f ∷ fs) w h = go (film_goes c.state) refl
  where
    cs_some : eqb c.state.control 0 ≡ false
    cs_some = ne_eqb c.state.control 0 (some_held w.control)

    fs_some : eqb c.state.film 0 ≡ false
    fs_some = ne_eqb c.state.film 0 (some_held w.film)

    go : (g : Bool) → film_goes c.state ≡ g → (number c Take ≡ 0) × TakesNext c (p ∷ cs) (f ∷ fs)
    go true g =
        let row = simp (cs_some, fs_some) at g in
        film_goes_lem w g (simp (cs_some, fs_some, row) (film-after_four {n = c.state.row} (omega (arith, leb-true))))
    go false g =
        let row = simp (cs_some, fs_some) at g in
        control-goes w g (simp (cs_some, fs_some, row) (control-first {n = c.state.row} (omega (arith, leb-false))))

none_or_some : (cs fs : List (List ℕ)) → ((cs ≡ []) × (fs ≡ [])) ⊎ ((cs ≢ []) ⊎ (fs ≢ []))
none_or_some [] [] = inl (refl, refl)
none_or_some [] (f ∷ fs) = inr (inr (λ e. omega (arith, ap length e)))
none_or_some (p ∷ cs) fs = inr (inl (λ e. omega (arith, ap length e)))

none : (c : Channel) (cs fs : List (List ℕ)) → Waiting c cs fs → (number c Take ≡ 25) ↔ ((cs ≡ []) × (fs ≡ []))
unfolding number
none c cs fs w = (there (none_or_some cs fs), back)
  where
    there : ((cs ≡ []) × (fs ≡ [])) ⊎ ((cs ≢ []) ⊎ (fs ≢ [])) → number c Take ≡ 25 → (cs ≡ []) × (fs ≡ [])
    there (inl h) e = h
    there (inr h) e = absurd (omega (arith, (takes c cs fs w h).0))

    back : (cs ≡ []) × (fs ≡ []) → number c Take ≡ 25
    back h =
        take-number c.state c.control c.film
        ∙ show-number c.state c.control c.film
        ∙ next-none (subst₂ (λ (x y : List (List ℕ)). Waiting c x y) h.0 h.1 w)

refuses : (c : Channel) (x : Call) → number c x ≢ 0 → (after c x ≡ c) × (sends c x ≡ [])
unfolding number after add_to_control add_to_film
refuses c (AddToControl p) h = let r = add-refused c.state.control c.control p h in (rw (r.0, r.1), refl)
refuses c (AddToFilm p) h = let r = add-refused c.state.film c.film p h in (rw (r.0, r.1), refl)
refuses c Show h = (refl, refl)
refuses c Take h =
    let r = take-refused c.state c.control c.film (λ e. h (take-number c.state c.control c.film ∙ e)) in
    (rw (r.0, r.1, r.2), rw (ne_eqb (number c Take) 0 h))

adds : (c : Channel) (cs fs : List (List ℕ)) → Waiting c cs fs → (p : List ℕ) → AddsLast c cs fs p
unfolding number after add_to_control add_to_film
adds c cs fs w p = record {
  control = λ e. record { control = add_left p w.control e; film = w.film };
  film = λ e. record { control = w.control; film = add_left p w.film e };
  past_control = add_past p w.control;
  past_film = add_past p w.film;
  control_row = refl;
  film_row = refl;
}

pub queues_in_order : QueuesInOrder
unfolding QueuesInOrder after
queues_in_order c cs fs w = record {
  adds = adds c cs fs w;
  shows = refl;
  refuses = refuses c;
  none = none c cs fs w;
  takes = takes c cs fs w;
}

-- Channels that calls reach

-- in empty queues nothing waits, whatever stands in them
empty_waits : (control film : List ℕ) → length control ≡ 4096 → length film ≡ 4096 → Waiting (record { state = empty; control = control; film = film }) [] []
unfolding queued
empty_waits control film h k = record {
  control = record { size = h; within = omega arith; holds = record { are = refl; short = tt } };
  film = record { size = k; within = omega arith; holds = record { are = refl; short = tt } };
}

-- packets wait: these, or others
abbrev Waits : Channel → Type 0
Waits c = (cs fs : List (List ℕ)) × Waiting c cs fs

-- where packets wait, they do after every call
done_waits : (c : Channel) (cs fs : List (List ℕ)) → Waiting c cs fs → (x : Call) → number c x ≡ 0 → Waits (after c x)
unfolding after
done_waits c cs fs w (AddToControl p) e = (cs ++ p ∷ [], fs, (adds c cs fs w p).control e)
done_waits c cs fs w (AddToFilm p) e = (cs, fs ++ p ∷ [], (adds c cs fs w p).film e)
done_waits c cs fs w Show e = (cs, fs, w)
done_waits c cs fs w Take e = go (none_or_some cs fs)
  where
    go : ((cs ≡ []) × (fs ≡ [])) ⊎ ((cs ≢ []) ⊎ (fs ≢ [])) → Waits (after c Take)
    go (inl h) = absurd (omega (arith, (none c cs fs w).1 h))
    go (inr h) = let t = (takes c cs fs w h).1 in (t.cs', t.fs', t.waiting)

call_waits : (c : Channel) → Waits c → (x : Call) → Waits (after c x)
call_waits c (cs, fs, w) x = go (number c x) refl
  where
    go : (n : ℕ) → number c x ≡ n → Waits (after c x)
    go zero e = done_waits c cs fs w x e
    go (suc n) e = (cs, fs, rw (refuses c x (λ z. omega arith)).0 w)

pub reached_waits : ReachedWaits
unfolding ReachedWaits
reached_waits c r = go r
  where
    go : {c : Channel} → Reached c → Waits c
    go (begun control film h k) = ([], [], empty_waits control film h k)
    go (called {c = c} r x) = call_waits c (go r) x

-- packets that fit, one after the other, behind those that wait
adding : (c : Channel) (cs ps : List (List ℕ)) → Waiting c cs [] → Short ps → length (queued (cs ++ ps)) ≤ 4096 → Waiting (played c (map AddToControl ps)) (cs ++ ps) []
unfolding played number add_to_control queued
adding c cs [] w s h = rw append-nil w
adding c cs (p ∷ ps) w s h =
    let room : c.state.control + length (packed p) ≤ 4096 = omega (arith, held-are w.control, simp (queued-append, length-append) at h) in
    let done = (adds c cs [] w p).control (add-fits p w.control s.0 room) in
    rw (append_assoc cs (p ∷ []) ps) at (adding (after c (AddToControl p)) (cs ++ p ∷ []) ps done s.1 (rw (append_assoc cs (p ∷ []) ps) h))

pub adding_leaves : AddingLeaves
unfolding AddingLeaves
adding_leaves held queue ps l control film h k =
    (map AddToControl ps, adding (record { state = empty; control = control; film = film }) [] ps (empty_waits control film h k) l.holds.short (omega (arith, held-are l, l.within)))
