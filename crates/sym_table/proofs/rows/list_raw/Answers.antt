use Rattle.std.proofs.Common.{◌≡◌, ◌∙◌, ◌∷◌, ◌++◌, [], List, Some, ap, append-nil, append_assoc, arith, length, refl, sym}
use Rattle.std.proofs.lemmas.List.{length-append}
use Rattle.sym_rows.specs.Rows.{rows_of}
use Rattle.sym_rows.proofs.Parts.{unmarked}
use Rattle.sym_table.specs.Reading.{Row}
use Rattle.sym_table.proofs.Cursors.{same_left, took_row}
use Rattle.sym_table.proofs.rows.list_raw.Goals as goal

pub rows-init : goal.rows-init
rows-init c = record {
  added = [];
  left = rows_of c.args.bytes.now;
  has = c.over-reader.ensures.rows ∙ ap (λ xs. Some (rows_of xs)) (unmarked c.args.bytes.now c.requires.begins);
  whole = refl;
  rows = sym (append-nil c.args.rows.now.items);
  count = refl;
}

pub rows-preserved : goal.rows-preserved
rows-preserved c =
    let inv = c.rows.invariant in
    let row : Row = c.read.new.row in
    let took = took_row c.rows.reader c.read.new.self c.read.new.row c.in_ok-read.field-0 c.if-not-branch.false c.in_ok-read.ensures in
    let same : inv.left ≡ row ∷ took.0 = same_left c.rows.reader inv.left (row ∷ took.0) inv.has took.1 in
    let size = length-append inv.added (row ∷ []) in
    record {
      added = inv.added ++ row ∷ [];
      left = took.0;
      has = took.2;
      whole = inv.whole ∙ ap (λ (ys : List Row). inv.added ++ ys) same ∙ sym (append_assoc inv.added (row ∷ []) took.0);
      rows = c.in_ok-push_back.ensures.items
          ∙ ap (λ (r : Row). c.rows.rows.items ++ r ∷ []) c.in_ok-copy.ensures
          ∙ ap (λ (ys : List Row). ys ++ row ∷ []) inv.rows
          ∙ append_assoc c.args.rows.now.items inv.added (row ∷ []);
      count = let count = inv.count in omega arith;
    }
