-- `arrives::deliver` meets its contract.
use Rattle.std.specs.Prelude.{Err, Some}
use mathlib.Core.Path.{◌≡◌, sym, ◌∙◌, ap}
use lib.ListN.{length}
use Rattle.frames.proofs.Laws.Put.{put_all, put_length_lem}
use Rattle.traffic.specs.declared.Fault.{Fault}
use Rattle.traffic.specs.Replies.{Reception, reception_of}
use Rattle.traffic.specs.Arrives.{Received, indication, frame_or_packet, deliver_as}
use Rattle.traffic.proofs.Laws.Receive.{delivered_short, delivered, room-enough, room_for}
use Rattle.arrives.proofs.deliver.Goals as goal

pub returns-then-out-packet : goal.returns-then-out-packet
returns-then-out-packet c =
    let args = c.args in
    let short = delivered_short args.link (indication args.h args.packet.now) args.out.now c.if-out-packet.true in (
      ap (λ (f : Fault). reception_of (Err f)) c.of.ensures ∙ sym (ap (λ (r : Received). r.reply) short),
      sym (ap (λ (r : Received). r.buffer) short),
    )

pub returns : goal.returns
returns c =
    let args = c.args in
    let x = indication args.h args.packet.now in
    let out = args.out.now in
    let wrote = c.write-length in
    let enough = c.if-out-packet.false in
    let done = delivered args.link x out enough in
    let w = frame_or_packet args.link.kind x in
    let room = room_for x (length out) args.link.kind (room-enough x (length out) enough) in
    let reply-is : ◌≡◌ {A = Reception} (record { number = 0; place = 0; link = Some args.link.index; length = wrote.result; source = args.h.source; class = args.h.class }) (deliver_as w x out args.link.index).reply =
    ap (λ n. record { number = 0; place = 0; link = Some args.link.index; length = n; source = args.h.source; class = args.h.class }) (wrote.ensures.0 ∙ put_length_lem w out room) in (
      reply-is ∙ sym (ap (λ (r : Received). r.reply) done),
      wrote.ensures.1 ∙ put_all w out room ∙ sym (ap (λ (r : Received). r.buffer) done),
    )
