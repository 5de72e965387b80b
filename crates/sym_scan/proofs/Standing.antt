-- How groups stand after records, and the rows of records that come after others.
use Rattle.std.proofs.Common.{◌≡◌, ◌∙◌, ap, sym, refl, subst, ℕ, Bool, true, false, cond, if◌then◌else◌, List, [], ◌∷◌, ◌++◌, append-nil}
use Rattle.sym_base.specs.declared.values.value.Key.{Key}
use Rattle.sym_base.specs.declared.values.record.Record.{Record}
use Rattle.sym_base.specs.declared.values.state.Outcome.{Outcome}
use Rattle.sym_check.specs.Meaning.Groups.{is_key, key_of, pass, records_of}
use Rattle.sym_check.specs.Meaning.Updates.{after, step}
use Rattle.sym_check.specs.Plan.ScriptPlans.{ScriptPlan}
use Rattle.sym_check.proofs.Keys.{equal_keys, keys_equiv}
use Rattle.sym_plain.specs.Pairs.{after_record, after_records, standing}
use Rattle.sym_plain.proofs.Apart.{pass_more}
use Rattle.sym_plain.proofs.Puts.{lookup-put, lookup-put-same}
use Rattle.sym_scan.specs.declared.rows.TraceRow.{TraceRow}
use Rattle.sym_scan.specs.Traces.{from_groups, rows_after, trace, trace_after}
use Rattle.sym_scan.proofs.TraceRows.{rows_append, rows_same, rows_shift}

abbrev pub Pairs : Type 0
Pairs = List (Key × Outcome)

-- A record's group makes its step, and all others stay.
stand_one : (p : ScriptPlan) (rec : Record) (groups : Pairs) (k : Key)
    → from_groups p (after_record p rec groups) k ≡ (if is_key (key_of p rec) k then step p (from_groups p groups k) rec else from_groups p groups k)
stand_one p rec groups k = of (is_key (key_of p rec) k) refl
  where
    of : (b : Bool) → is_key (key_of p rec) k ≡ b → from_groups p (after_record p rec groups) k ≡ (if b then step p (from_groups p groups k) rec else from_groups p groups k)
    of true e =
        subst (λ (j : Key). from_groups p (after_record p rec groups) j ≡ step p (from_groups p groups j) rec) (equal_keys (key_of p rec) k e)
        (ap (standing p) (lookup-put-same (key_of p rec) (step p (from_groups p groups (key_of p rec)) rec) groups))
    of false e =
        ap (standing p) (lookup-put k (key_of p rec) (step p (from_groups p groups (key_of p rec)) rec) groups (keys_equiv.symm k (key_of p rec) ∙ e))

-- After records each group has made the steps of its own.
pub stand_after : (p : ScriptPlan) (records : List Record) (groups : Pairs) (k : Key)
    → from_groups p (after_records p records groups) k ≡ after p (records_of p k records) (from_groups p groups k)
stand_after p [] groups k = refl
stand_after p (rec ∷ records) groups k =
    stand_after p records (after_record p rec groups) k
    ∙ ap (after p (records_of p k records)) (stand_one p rec groups k)
    ∙ of (is_key (key_of p rec) k)
  where
    of : (b : Bool) → after p (records_of p k records) (if b then step p (from_groups p groups k) rec else from_groups p groups k)
        ≡ after p (cond b (rec ∷ records_of p k records) (records_of p k records)) (from_groups p groups k)
    of true = refl
    of false = refl

-- The rows of records that come after others, from how the groups stand after those.
pub rows_on : (p : ScriptPlan) (every : ℕ) (groups : Pairs) (first rest : List Record)
    → rows_after p every (from_groups p (after_records p first groups)) [] rest ≡ rows_after p every (from_groups p groups) first rest
rows_on p every groups first rest =
    rows_same p every (from_groups p (after_records p first groups)) (λ k. after p (records_of p k first) (from_groups p groups k)) [] rest (λ k h. stand_after p first groups k)
    ∙ rows_shift p every (from_groups p groups) first [] rest
    ∙ ap (λ (rs : List Record). rows_after p every (from_groups p groups) rs rest) (append-nil first)

pub rows_then : (p : ScriptPlan) (every : ℕ) (groups : Pairs) (first rest : List Record)
    → rows_after p every (from_groups p groups) [] (first ++ rest)
    ≡ rows_after p every (from_groups p groups) [] first ++ rows_after p every (from_groups p (after_records p first groups)) [] rest
rows_then p every groups first rest =
    rows_append p every (from_groups p groups) [] first rest
    ∙ ap (λ (more : List TraceRow). rows_after p every (from_groups p groups) [] first ++ more) (sym (rows_on p every groups first rest))

-- ---- traces
pub trace_more : (p : ScriptPlan) (every : ℕ) (first rest : List Record) → trace p every (first ++ rest) ≡ trace p every first ++ trace_after p every first rest
trace_more p every first rest = rows_append p every (from_groups p []) [] first rest

-- The part of a trace, from the pass over the records before it.
pub trace_part : (p : ScriptPlan) (every : ℕ) (first rest : List Record) → trace_after p every first rest ≡ rows_after p every (from_groups p (pass p first)) [] rest
trace_part p every first rest =
    sym (rows_on p every [] first rest)
    ∙ ap (λ (groups : Pairs). rows_after p every (from_groups p groups) [] rest) (pass_more p [] first)
