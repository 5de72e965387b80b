use Rattle.std.proofs.Common.{rules, arith, ◌≡◌, ◌≤◌, length, take, ◌++◌, ap, ◌∙◌}
use Rattle.std.proofs.lemmas.Grind.{common_steps}
use Rattle.sym_base.proofs.Reading.{kept_of, read_on}
use Rattle.sym_base.proofs.edge.read.read_all.Goals as goal

pub pieces-preserved : goal.pieces-preserved
pieces-preserved g c =
    let room : c.deref_mut.result.now ≡ c.resize.new.self.items = c.deref_mut.ensures.value in
    let old : take c.len-start.result c.deref_mut.result.now ≡ c.pieces.bytes.items = grind (arith, common_steps) in
    let within : c.in-Ok.count ≤ length c.read_at.new.into = search rules in
    let kept : c.truncate.new.self.items ≡ c.pieces.bytes.items ++ take c.in-Ok.count c.read_at.new.into =
    c.truncate.ensures.items ∙ kept_of _ _ _ _ _ _ _ (omega arith) within (omega arith) ∙ ap (λ x. x ++ take c.in-Ok.count c.read_at.new.into) old in
    let place : c.len-start.result ≡ length c.pieces.bytes.items = omega arith in
    record {
      fits = search rules;
      front = read_on _ _ c.pieces.bytes.items c.truncate.new.self.items _ c.read_at.new.into c.len-start.result c.in-Ok.count (ap (λ h. h c.args.name.now) c.pieces.invariant.same) place within kept c.pieces.invariant.front c.in-Ok.ensures.bytes;
      same = search rules;
      later = search rules;
    }
