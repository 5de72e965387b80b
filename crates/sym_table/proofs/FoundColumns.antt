-- The columns of fields, one after the other.
use Rattle.std.proofs.Common.{◌≡◌, refl, sym, ap, ℕ, ◌+◌, ◌<◌, ◌≤◌, true, false, List, [], ◌∷◌, ◌++◌, length, drop, get_or, Some, None, Result, Ok, Err, append_assoc}
use Rattle.std.proofs.lemmas.List.{drop_more, drop_all, append-nil}
use Rattle.std.specs.Cmp.Lexicographic.{pointwise}
use Rattle.std.specs.Prelude.{nat_eq}
use Rattle.sym_check.specs.declared.plan.script.FieldPlan.{FieldPlan}
use Rattle.sym_check.specs.Meaning.Arithmetic.{and_then}
use Rattle.sym_table.specs.declared.header.HeadFault.{HeadFault}
use Rattle.sym_table.specs.Headers.{column_from, column_of, columns_of}

-- These columns, and then those that are found.
abbrev pub with_columns : List ℕ → Result (List ℕ) HeadFault → Result (List ℕ) HeadFault
with_columns places found = and_then (λ rest. Ok (places ++ rest)) found

more_columns : (places : List ℕ) (place : ℕ) (found : Result (List ℕ) HeadFault)
    → with_columns places (and_then (λ rest. Ok (place ∷ rest)) found) ≡ with_columns (places ++ place ∷ []) found
more_columns places place (Ok rest) = ap Ok (sym (append_assoc places (place ∷ []) rest))
more_columns places place (Err why) = refl

pub one_column_more : (row : List (List ℕ)) (fields : List FieldPlan) (places : List ℕ) (i : ℕ) (f : FieldPlan) (place : ℕ)
    → i < length fields → column_of row (get_or fields i f).header i ≡ Ok place
    → with_columns places (columns_of row i (drop i fields)) ≡ with_columns (places ++ place ∷ []) (columns_of row (i + 1) (drop (i + 1) fields))
one_column_more row fields places i f place h e =
    rw (drop_more fields i f h, e) (more_columns places place (columns_of row (i + 1) (drop (i + 1) fields)))

pub head_fault : (row : List (List ℕ)) (fields : List FieldPlan) (places : List ℕ) (i : ℕ) (f : FieldPlan) (why : HeadFault)
    → i < length fields → column_of row (get_or fields i f).header i ≡ Err why
    → with_columns places (columns_of row i (drop i fields)) ≡ Err why
head_fault row fields places i f why h e = rw (drop_more fields i f h, e) refl

pub all_columns : (row : List (List ℕ)) (fields : List FieldPlan) (places : List ℕ) (i : ℕ) → length fields ≤ i
    → with_columns places (columns_of row i (drop i fields)) ≡ Ok places
all_columns row fields places i h = rw (drop_all i fields h) (ap Ok (append-nil places))

-- A column with the text, and one without it.
pub column_here : (row : List (List ℕ)) (text : List ℕ) (i : ℕ) → i < length row → pointwise nat_eq (get_or row i []) text ≡ true
    → column_from i (drop i row) text ≡ Some i
column_here row text i h e = rw (drop_more row i [] h, e) refl

pub column_later : (row : List (List ℕ)) (text : List ℕ) (i : ℕ) → i < length row → pointwise nat_eq (get_or row i []) text ≡ false
    → column_from i (drop i row) text ≡ column_from (i + 1) (drop (i + 1) row) text
column_later row text i h e = rw (drop_more row i [] h, e) refl

pub column_none : (row : List (List ℕ)) (text : List ℕ) (i : ℕ) → length row ≤ i → column_from i (drop i row) text ≡ None
column_none row text i h = rw (drop_all i row h) refl
