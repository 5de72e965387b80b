use Rattle.std.proofs.Common.{sym, subst, All, List}
use Rattle.std.proofs.lemmas.List.Elements.{All-push}
use Rattle.sym_base.specs.declared.values.record.Record.{Record}
use Rattle.sym_check.specs.Checking.CheckedScripts.{checked_plan}
use Rattle.sym_check.specs.Meaning.Validity.{IsRecord}
use Rattle.sym_table.specs.declared.header.Header.{Header}
use Rattle.sym_table.specs.Rows.{FitsHeader}
use Rattle.sym_bench.proofs.log.records_of.Goals as goal

pub rows-preserved : goal.rows-preserved
rows-preserved c =
    let p = checked_plan c.args.checked.now in
    record {
      header = subst (λ (h : Header). FitsHeader p.fields h) (sym c.next_row.ensures.header) c.rows.invariant.header;
      records = subst (λ (rs : List Record). All (IsRecord p) rs) (sym c.in_ok-push-in-Is.ensures.items)
          (All-push (IsRecord p) c.rows.records.items c.in-Is.record c.rows.invariant.records (rw c.in-Is.is at c.in_ok-record.ensures.fits));
    }
