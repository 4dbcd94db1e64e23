-- A slot in which nothing is left is the free slot: what `Slot` asks of each element.
use Rattle.std.specs.Prelude.{◌≡◌, true, ◌&&◌, eqb}
use borrow.Author.Tests.{eqb-true}
use Rattle.slots.proofs.Tests.{and_true}
use Rattle.rules.specs.declared.OpNo.{OpNo}
use Rattle.rules.specs.declared.Interrupt.{Interrupt}
use Rattle.rules.specs.declared.Message.{Message}
use Rattle.rules.specs.GuestSlots.{is_zero_op, is_zero_interrupt, zero_op, zero_interrupt}
use Rattle.rules.specs.PairSlots.{is_zero_message, zero_message}

pub zero_op_lem : (o : OpNo) → is_zero_op o ≡ true → o ≡ zero_op
zero_op_lem o h = λ k. record { 0 = eqb-true o.0 0 h k }

pub zero_interrupt_lem : (i : Interrupt) → is_zero_interrupt i ≡ true → i ≡ zero_interrupt
zero_interrupt_lem i h =
    let a = and_true (eqb i.status 0 && eqb i.op.0 0) (eqb i.word 0) h in
    let b = and_true (eqb i.status 0) (eqb i.op.0 0) a.0 in
    λ k. record { status = eqb-true i.status 0 b.0 k; op = zero_op_lem i.op b.1 k; word = eqb-true i.word 0 a.1 k }

pub zero_message_lem : (m : Message) → is_zero_message m ≡ true → m ≡ zero_message
zero_message_lem m h =
    let a = and_true (eqb m.kind 0 && eqb m.status 0 && eqb m.epoch.0 0 && eqb m.op.0 0) (eqb m.word 0) h in
    let b = and_true (eqb m.kind 0 && eqb m.status 0 && eqb m.epoch.0 0) (eqb m.op.0 0) a.0 in
    let c = and_true (eqb m.kind 0 && eqb m.status 0) (eqb m.epoch.0 0) b.0 in
    let d = and_true (eqb m.kind 0) (eqb m.status 0) c.0 in
    λ k. record { kind = eqb-true m.kind 0 d.0 k; status = eqb-true m.status 0 d.1 k; epoch = record { 0 = eqb-true m.epoch.0 0 c.1 k }; op = zero_op_lem m.op b.1 k; word = eqb-true m.word 0 a.1 k }
