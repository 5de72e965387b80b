use Rattle.std.proofs.Common.{◌≡◌, ◌+◌, ◌/◌, ◌%◌, ◌∙◌, ap, codes, arith}
use Rattle.sym_top.specs.Making.{made_file}
use Rattle.sym_top.proofs.MadeLines.{state_more, time_more, text_more}
use Rattle.sym_top.proofs.make.made_file.Goals as goal

pub records-preserved : goal.records-preserved
records-preserved c =
    let before = c.records.invariant in
    let state = state_more c.args.seed c.records._made c.records.state c.next_state-state.result
    before.state c.next_state-state.ensures.state in
    let time = time_more c.args.seed c.records._made c.next_state-state.result c.records.time
    state before.time in
    record {
      state = state;
      small = omega arith;
      time = time;
      early = omega arith;
      text = text_more c.args.seed c.records._made c.next_state-state.result
          (c.records.time + c.next_state-state.result / 65536 % 8) (codes "ts,user\n") c.records.text.items
          c.push_line.new.into.items state time before.text c.in_ok-push_line.ensures;
    }

pub returns : goal.returns
returns c =
    let all : c.records._made ≡ c.args.records = omega arith in
    c.records.invariant.text ∙ ap (λ count. made_file count c.args.seed) all
