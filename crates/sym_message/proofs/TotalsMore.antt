-- What is counted of the rows of groups, with one group more.
use Rattle.std.proofs.Common.{◌≡◌, ℕ, ◌+◌, Bool, true, false, not, ◌||◌, List, [], ◌∷◌, ◌++◌, map, take, filter, slice_get, refl, sym, ap, ◌∙◌, arith, nat_lt}
use Rattle.std.specs.Prelude.{sum_by, if◌then◌else◌}
use Rattle.std.proofs.lemmas.List.{map-append}
use Rattle.std.proofs.lemmas.List.Sums.{sum_by-append}
use Rattle.std.proofs.lemmas.List.Elements.{filter-append}
use Rattle.sym_report.specs.declared.rows.Row.{Row}
use Rattle.sym_report.specs.ReportRows.{is_faulty, some_faulty}
use Rattle.sym_message.proofs.Rows.{taken}
use Rattle.sym_message.specs.Summaries.{listed, faults_in, sessions_in, sessions_of}

-- The faulty rows, and the sessions of the others, of two lists one after the other.
faults_in-append : (xs ys : List Row) → faults_in (xs ++ ys) ≡ faults_in xs + faults_in ys
faults_in-append xs ys = sum_by-append (λ (row : Row). if is_faulty row.body then 1 else 0) xs ys

sessions_in-append : (xs ys : List Row) → sessions_in (xs ++ ys) ≡ sessions_in xs + sessions_in ys
sessions_in-append xs ys =
    let sound : Row → Bool = λ row. not (is_faulty row.body) in
    ap (sum_by (λ (row : Row). sessions_of row.body)) (filter-append sound xs ys)
    ∙ sum_by-append (λ (row : Row). sessions_of row.body) (filter sound xs) (filter sound ys)

-- Of one row.
pub faults_in_one : (row : Row) →
    faults_in (row ∷ []) ≡ (if is_faulty row.body then 1 else 0)
faults_in_one row = omega arith

pub sessions_in_one : (row : Row) →
    sessions_in (row ∷ []) ≡ (if is_faulty row.body then 0 else sessions_of row.body)
sessions_in_one row =
    elim (is_faulty row.body) as (λ faulty. sum_by (λ (r : Row). sessions_of r.body) (if not faulty then row ∷ [] else []) ≡ (if faulty then 0 else sessions_of row.body)) [
      | true ↦ refl
      | false ↦ omega arith
    ]

module _ {A : Type 0} (row : A → Row) (groups : List A) (i old new : ℕ) where
  pub faults_in-more :
      old ≡ faults_in (map row (take i groups)) →
      new ≡ old + faults_in (map row (listed (slice_get groups i))) →
      new ≡ faults_in (map row (take (i + 1) groups))
  faults_in-more before here =
      let left : List Row = map row (take i groups) in
      let right : List Row = map row (listed (slice_get groups i)) in
      let rows : map row (take (i + 1) groups) ≡ left ++ right = ap (map row) (taken groups i) ∙ map-append row (take i groups) (listed (slice_get groups i)) in
      here ∙ ap (λ n. n + faults_in right) before ∙ sym (ap faults_in rows ∙ faults_in-append left right)

  pub sessions_in-more :
      old ≡ sessions_in (map row (take i groups)) →
      new ≡ old + sessions_in (map row (listed (slice_get groups i))) →
      new ≡ sessions_in (map row (take (i + 1) groups))
  sessions_in-more before here =
      let left : List Row = map row (take i groups) in
      let right : List Row = map row (listed (slice_get groups i)) in
      let rows : map row (take (i + 1) groups) ≡ left ++ right = ap (map row) (taken groups i) ∙ map-append row (take i groups) (listed (slice_get groups i)) in
      here ∙ ap (λ n. n + sessions_in right) before ∙ sym (ap sessions_in rows ∙ sessions_in-append left right)

-- Some row is faulty exactly when there are faulty rows to count.
first_faulty : (faulty : Bool) (n : ℕ) →
    nat_lt 0 ((if faulty then 1 else 0) + n) ≡ (faulty || nat_lt 0 n)
first_faulty true n = search arith
first_faulty false n = ap (nat_lt 0) (omega arith)

pub some_faulty-counted : (rows : List Row) → nat_lt 0 (faults_in rows) ≡ some_faulty rows
some_faulty-counted [] = refl
some_faulty-counted (row ∷ rows) =
    ap (nat_lt 0) (faults_in-append (row ∷ []) rows
    ∙ ap (λ n. n + faults_in rows) (faults_in_one row))
    ∙ first_faulty (is_faulty row.body) (faults_in rows)
    ∙ ap (λ rest. is_faulty row.body || rest) (some_faulty-counted rows)
