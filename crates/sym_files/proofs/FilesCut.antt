-- Files may be cut between any two records: their records are those of the rows, however these are
-- divided among files with the same header.
use Rattle.std.proofs.Common.{◌≡◌, ◌↔◌, refl, sym, ap, subst, ◌∙◌, ℕ, ◌+◌, arith, List, [], ◌∷◌, ◌++◌, length, Ok}
use Rattle.std.proofs.lemmas.List.{append-nil, append_assoc, length-append}
use Rattle.sym_base.specs.declared.values.value.Value.{Value}
use Rattle.sym_base.specs.declared.values.record.Record.{Record}
use Rattle.sym_check.specs.Plan.ScriptPlans.{ScriptPlan}
use Rattle.sym_table.specs.declared.header.Header.{Header}
use Rattle.sym_table.specs.Reading.{Row}
use Rattle.sym_table.specs.Rows.{HasValues}
use Rattle.sym_table.specs.RowRecords.{HaveRecords}
use Rattle.sym_table.specs.RowRecords as rows
use Rattle.sym_files.specs.FileRecords.{FileRules, rows_by, IsHeader, IsFine, header_of}
use Rattle.sym_files.specs.FileRecords as files
use Rattle.sym_files.specs.FirstProblems.{AllFine}
use Rattle.sym_files.specs.FirstProblems as all
use Rattle.sym_files.specs.Cuts.{Holds, AreCutTo}
use Rattle.sym_files.specs.Cuts as cut
use Rattle.sym_files.proofs.RowsAgree.{header_answered}

-- ---- records of rows
-- The records of rows and of more rows are those of both, numbered on.
both_have : (p : ScriptPlan) (header : Header) (n : ℕ) (xs ys : List Row) (rs ss : List Record)
    → HaveRecords p header n xs rs → HaveRecords p header (n + length rs) ys ss → HaveRecords p header n (xs ++ ys) (rs ++ ss)
both_have p header _ _ ys _ ss (rows.no_row n) k = subst (λ m. HaveRecords p header m ys ss) (omega arith) k
both_have p header _ _ ys _ ss (rows.one_more n row xs values rs has h) k =
    rows.one_more n row (xs ++ ys) values (rs ++ ss) has
    (both_have p header (n + 1) xs ys rs ss h (subst (λ m. HaveRecords p header m ys ss) (omega arith) k))

-- Records of rows and more, taken apart.
record Parted (p : ScriptPlan) (header : Header) (n : ℕ) (xs ys : List Row) (records : List Record) : Type 0 where
  first : List Record
  rest : List Record
  have : HaveRecords p header n xs first
  more : HaveRecords p header (n + length first) ys rest
  are : records ≡ first ++ rest

record Headed (p : ScriptPlan) (header : Header) (n : ℕ) (row : Row) (xs : List Row) (records : List Record) : Type 0 where
  values : List Value
  others : List Record
  has : HasValues p.enums p.fields header row values
  have : HaveRecords p header (n + 1) xs others
  are : records ≡ record { no = n; fields = values } ∷ others

headed : (p : ScriptPlan) (header : Header) (n : ℕ) (row : Row) (xs : List Row) (records : List Record) → HaveRecords p header n (row ∷ xs) records → Headed p header n row xs records
headed p header _ _ _ _ (rows.one_more n row xs values others has h) = record { values = values; others = others; has = has; have = h; are = refl }

parted : (p : ScriptPlan) (header : Header) (n : ℕ) (xs ys : List Row) (records : List Record)
    → HaveRecords p header n (xs ++ ys) records → Parted p header n xs ys records
parted p header n [] ys records h =
    record { first = []; rest = records; have = rows.no_row n; more = subst (λ m. HaveRecords p header m ys records) (omega arith) h; are = refl }
parted p header n (row ∷ xs) ys records h =
    let one = headed p header n row (xs ++ ys) records h in
    let q = parted p header (n + 1) xs ys one.others one.have in
    let own : Record = record { no = n; fields = one.values } in
    record {
      first = own ∷ q.first;
      rest = q.rest;
      have = rows.one_more n row xs one.values q.first one.has q.have;
      more = subst (λ m. HaveRecords p header m ys q.rest) (omega arith) q.more;
      are = one.are ∙ ap (λ rs. own ∷ rs) q.are;
    }

-- ---- files that are cut
-- Of a file with these rows.
record HasHeader (p : ScriptPlan) (n : ℕ) (head : Row) (xs : List Row) (records : List Record) : Type 0 where
  header : Header
  is : IsHeader p head header
  have : HaveRecords p header n xs records

first_row : (x y : Row) (xs ys : List Row) → x ∷ xs ≡ y ∷ ys → x ≡ y
first_row x y xs ys e = cc

other_rows : (x y : Row) (xs ys : List Row) → x ∷ xs ≡ y ∷ ys → xs ≡ ys
other_rows x y xs ys e = cc

of_file : (p : ScriptPlan) (rules : FileRules) (n : ℕ) (head : Row) (xs : List Row) (bytes : List ℕ) (records : List Record)
    → rows_by rules bytes ≡ head ∷ xs → IsFine p rules n bytes records → HasHeader p n head xs records
of_file p rules n head xs bytes _ e (files.empty size none) = absurd (cc)
of_file p rules n head xs bytes _ e (files.filled row others header records size are is have) =
    let same : row ∷ others ≡ head ∷ xs = sym are ∙ e in
    record {
      header = header;
      is = subst (λ r. IsHeader p r header) (first_row row head others xs same) is;
      have = subst (λ rs. HaveRecords p header n rs records) (other_rows row head others xs same) have;
    }

-- Files that are fine, the first one taken apart.
record FineFirst (p : ScriptPlan) (rules : FileRules) (n : ℕ) (bytes : List ℕ) (rest : List (List ℕ)) (records : List Record) : Type 0 where
  first : List Record
  others : List Record
  fine : IsFine p rules n bytes first
  more : AllFine p rules (n + length first) rest others
  are : records ≡ first ++ others

fine_first : (p : ScriptPlan) (rules : FileRules) (n : ℕ) (bytes : List ℕ) (rest : List (List ℕ)) (records : List Record)
    → AllFine p rules n (bytes ∷ rest) records → FineFirst p rules n bytes rest records
fine_first p rules _ _ _ _ (all.one_more n bytes rest first others fine more) = record { first = first; others = others; fine = fine; more = more; are = refl }

none_left : (p : ScriptPlan) (rules : FileRules) (n : ℕ) (records : List Record) → AllFine p rules n [] records → records ≡ []
none_left p rules _ _ (all.no_file n) = refl

one_header : (p : ScriptPlan) (head : Row) (header other : Header) → IsHeader p head header → IsHeader p head other → header ≡ other
one_header p head header other h k =
    let e : header_of p head ≡ Ok header = header_answered p head header h in
    let f : header_of p head ≡ Ok other = header_answered p head other k in
    cc (e, f)

-- The records of files that have these rows are those of the rows,
rows_have : (p : ScriptPlan) (rules : FileRules) (head : Row) (n : ℕ) (xs : List Row) (bytes : List (List ℕ)) (records : List Record)
    → AreCutTo rules head xs bytes → AllFine p rules n bytes records → HasHeader p n head xs records
rows_have p rules head n _ _ records (cut.in_one xs bytes holds) fine =
    let one = fine_first p rules n bytes [] records fine in
    let found = of_file p rules n head xs bytes one.first holds.are one.fine in
    let same : one.first ≡ records = sym (one.are ∙ ap (λ rs. one.first ++ rs) (none_left p rules (n + length one.first) one.others one.more) ∙ append-nil one.first) in
    record { header = found.header; is = found.is; have = subst (λ rs. HaveRecords p found.header n xs rs) same found.have }
rows_have p rules head n _ _ records (cut.one_more xs ys bytes rest holds cuts) fine =
    let one = fine_first p rules n bytes rest records fine in
    let found = of_file p rules n head xs bytes one.first holds.are one.fine in
    let more = rows_have p rules head (n + length one.first) ys rest one.others cuts one.more in
    let next = subst (λ h. HaveRecords p h (n + length one.first) ys one.others) (one_header p head more.header found.header more.is found.is) more.have in
    record {
      header = found.header;
      is = found.is;
      have = subst (λ rs. HaveRecords p found.header n (xs ++ ys) rs) (sym one.are) (both_have p found.header n xs ys one.first one.others found.have next);
    }

-- and the other way round.
files_fine : (p : ScriptPlan) (rules : FileRules) (head : Row) (header : Header) (n : ℕ) (xs : List Row) (bytes : List (List ℕ)) (records : List Record)
    → AreCutTo rules head xs bytes → IsHeader p head header → HaveRecords p header n xs records → AllFine p rules n bytes records
files_fine p rules head header n _ _ records (cut.in_one xs bytes holds) is have =
    subst (AllFine p rules n (bytes ∷ [])) (append-nil records)
    (all.one_more n bytes [] records [] (files.filled head xs header records holds.small holds.are is have) (all.no_file (n + length records)))
files_fine p rules head header n _ _ records (cut.one_more xs ys bytes rest holds cuts) is have =
    let q = parted p header n xs ys records have in
    subst (AllFine p rules n (bytes ∷ rest)) (sym q.are)
    (all.one_more n bytes rest q.first q.rest (files.filled head xs header q.first holds.small holds.are is q.have)
    (files_fine p rules head header (n + length q.first) ys rest q.rest cuts is q.more))

cut_other : (p : ScriptPlan) (rules : FileRules) (n : ℕ) (head : Row) (xs : List Row) (bytes other : List (List ℕ)) (records : List Record)
    → AreCutTo rules head xs bytes → AreCutTo rules head xs other → AllFine p rules n bytes records → AllFine p rules n other records
cut_other p rules n head xs bytes other records cuts others fine =
    let found = rows_have p rules head n xs bytes records cuts fine in
    files_fine p rules head found.header n xs other records others found.is found.have

-- ---- beside other files
record FineBoth (p : ScriptPlan) (rules : FileRules) (n : ℕ) (bytes rest : List (List ℕ)) (records : List Record) : Type 0 where
  first : List Record
  others : List Record
  fine : AllFine p rules n bytes first
  more : AllFine p rules (n + length first) rest others
  are : records ≡ first ++ others

fine_both : (p : ScriptPlan) (rules : FileRules) (n : ℕ) (bytes rest : List (List ℕ)) (records : List Record)
    → AllFine p rules n (bytes ++ rest) records → FineBoth p rules n bytes rest records
fine_both p rules n [] rest records fine =
    record { first = []; others = records; fine = all.no_file n; more = subst (λ m. AllFine p rules m rest records) (omega arith) fine; are = refl }
fine_both p rules n (file ∷ bytes) rest records fine =
    let one = fine_first p rules n file (bytes ++ rest) records fine in
    let q = fine_both p rules (n + length one.first) bytes rest one.others one.more in
    let next : n + length one.first + length q.first ≡ n + length (one.first ++ q.first) = let e = length-append one.first q.first in omega (arith, e) in
    record {
      first = one.first ++ q.first;
      others = q.others;
      fine = all.one_more n file bytes one.first q.first one.fine q.fine;
      more = subst (λ m. AllFine p rules m rest q.others) next q.more;
      are = one.are ∙ ap (λ rs. one.first ++ rs) q.are ∙ sym (append_assoc one.first q.first q.others);
    }

both_fine : (p : ScriptPlan) (rules : FileRules) (n : ℕ) (bytes rest : List (List ℕ)) (first others : List Record)
    → AllFine p rules n bytes first → AllFine p rules (n + length first) rest others → AllFine p rules n (bytes ++ rest) (first ++ others)
both_fine p rules _ _ rest _ others (all.no_file n) more = subst (λ m. AllFine p rules m rest others) (omega arith) more
both_fine p rules _ _ rest _ others (all.one_more n file bytes one first fine fines) more =
    let next : n + length (one ++ first) ≡ n + length one + length first = let e = length-append one first in omega (arith, e) in
    subst (AllFine p rules n (file ∷ (bytes ++ rest))) (sym (append_assoc one first others))
    (all.one_more n file (bytes ++ rest) one (first ++ others) fine
    (both_fine p rules (n + length one) bytes rest first others fines (subst (λ m. AllFine p rules m rest others) next more)))

pub beside : (p : ScriptPlan) (rules : FileRules) (n : ℕ) (before bytes other after : List (List ℕ)) (records : List Record)
    → ((m : ℕ) (rs : List Record) → AllFine p rules m bytes rs → AllFine p rules m other rs)
    → AllFine p rules n (before ++ (bytes ++ after)) records → AllFine p rules n (before ++ (other ++ after)) records
beside p rules n before bytes other after records h fine =
    let q = fine_both p rules n before (bytes ++ after) records fine in
    let r = fine_both p rules (n + length q.first) bytes after q.others q.more in
    subst (AllFine p rules n (before ++ (other ++ after))) (sym (q.are ∙ ap (λ rs. q.first ++ rs) r.are))
    (both_fine p rules n before (other ++ after) q.first (r.first ++ r.others) q.fine
    (both_fine p rules (n + length q.first) other after r.first r.others (h (n + length q.first) r.first r.fine) r.more))

pub cuts_change_nothing : (p : ScriptPlan) (rules : FileRules) (n : ℕ) (head : Row) (xs : List Row) (before bytes other after : List (List ℕ)) (records : List Record)
    → AreCutTo rules head xs bytes → AreCutTo rules head xs other
    → AllFine p rules n (before ++ (bytes ++ after)) records ↔ AllFine p rules n (before ++ (other ++ after)) records
cuts_change_nothing p rules n head xs before bytes other after records cuts others = (
  beside p rules n before bytes other after records (λ m rs. cut_other p rules m head xs bytes other rs cuts others),
  beside p rules n before other bytes after records (λ m rs. cut_other p rules m head xs other bytes rs others cuts),
)
