-- The lines so far.
use Rattle.std.proofs.Common.{◌≡◌, ◌*◌, ◌<◌, ◌≤◌, ◌^◌}
use Rattle.sym_top.specs.Making.{made_file, state_at, time_at}
use Rattle.sym_top.proofs.make.made_file.Given as goal

abbrev pub invariant-records : goal.invariant-records
invariant-records l = record {
  state : l.state ≡ state_at l.seed l._made;
  small : l.state < 2 ^ 32;
  time : l.time ≡ time_at l.seed l._made;
  early : l.time ≤ 7 * l._made;
  text : l.text.items ≡ made_file l._made l.seed;
}
