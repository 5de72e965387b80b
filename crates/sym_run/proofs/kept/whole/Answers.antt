use Rattle.std.proofs.Common.{◌∙◌, ◌++◌, ◌∷◌, [], List, ap₂, map, sym}
use Rattle.std.proofs.lemmas.List.{append-nil}
use Rattle.sym_base.specs.declared.values.value.Value.{Value}
use Rattle.sym_base.specs.declared.values.record.Record.{Record}
use Rattle.sym_path.proofs.Lists.{take_get}
use Rattle.sym_run.specs.Keeping.{with_empty_in}
use Rattle.sym_run.proofs.kept.whole.Goals as goal

pub records-preserved : goal.records-preserved
records-preserved c =
    c.in_ok-push.ensures.ok
    ∙ ap₂ (λ (rs : List Record) (fs : List Value). rs ++ record { no = c.read.new.rec.no; fields = fs } ∷ []) c.records.invariant (append-nil c.as_slice.result.now ∙ c.as_slice.ensures)
    ∙ sym (take_get (map (with_empty_in c.args.empty) c.args.stored.now) c.records.index c.read.new.rec c.in_ok-read.ensures)
