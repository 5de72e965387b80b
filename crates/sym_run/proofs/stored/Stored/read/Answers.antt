use Rattle.std.proofs.Common.{◌∙◌, ◌*◌, ap, refl, length, take, drop, arith}
use Rattle.std.proofs.lemmas.Option.{slice_get_read}
use Rattle.sym_run.proofs.CutRecords.{read_room}
use Rattle.sym_run.proofs.EmptyWords.{read_with}
use Rattle.sym_run.proofs.stored.Stored.read.Goals as goal

pub values_at-values-requires : goal.values_at-values-requires
values_at-values-requires c =
    let i = c.self.inside in
    let room = read_room i.width c.args.index i.numbers.items i.values.items c.args.self.now c.self.invariant c.self.view_is c.requires in
    omega (arith, room.0, ap length c.as_slice.ensures.value)

pub index-requires : goal.index-requires
index-requires c =
    let i = c.self.inside in
    let room = read_room i.width c.args.index i.numbers.items i.values.items c.args.self.now c.self.invariant c.self.view_is c.requires in
    omega (arith, room.1, i.numbers.ok.0)

pub returns : goal.returns
returns c =
    let i = c.self.inside in
    let room = read_room i.width c.args.index i.numbers.items i.values.items c.args.self.now c.self.invariant c.self.view_is c.requires in
    read_with c.args.empty i.width c.args.index c.index.result.now i.numbers.items i.values.items c.values_at-values.result.now c.copy_with.new.values c.args.self.now c.self.view_is
    (slice_get_read i.numbers.items (length i.numbers.items) c.args.index c.index.result.now refl room.1 c.index.ensures)
    (c.values_at-values.ensures ∙ ap (λ vs. take i.width (drop (c.args.index * i.width) vs)) c.as_slice.ensures.value)
    c.in_ok-copy_with.ensures
