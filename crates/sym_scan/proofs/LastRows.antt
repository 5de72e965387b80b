-- The last row of each key, where each record is shown, is how its group stands after the pass.
use Rattle.std.proofs.Common.{◌≡◌, ◌∙◌, refl, sym, ap, subst, ℕ, ◌==◌, ◌-◌, arith, Bool, true, false, cond, if◌then◌else◌, List, [], ◌∷◌, ◌++◌, length, append-nil, append_assoc, length-append, Option, Some, slice_get}
use Rattle.std.specs.List.{filter}
use Rattle.std.specs.Map.{lookup}
use Rattle.std.specs.Option.{option_map}
use Rattle.std.proofs.Math.Nat.{mod-one}
use Rattle.std.proofs.lemmas.List.Elements.{filter-append}
use Rattle.sym_base.specs.declared.values.value.Key.{Key}
use Rattle.sym_base.specs.declared.values.record.Record.{Record}
use Rattle.sym_base.specs.declared.values.state.Outcome.{Outcome}
use Rattle.sym_check.specs.Meaning.Groups.{is_key, key_of, pass}
use Rattle.sym_check.specs.Meaning.Updates.{after, step}
use Rattle.sym_check.specs.Plan.ScriptPlans.{ScriptPlan}
use Rattle.sym_check.proofs.Keys.{equal_keys, same_key}
use Rattle.sym_plain.specs.Pairs.{put}
use Rattle.sym_plain.specs.Shown.{last}
use Rattle.sym_plain.proofs.Apart.{pass_more}
use Rattle.sym_plain.proofs.Puts.{lookup-put, lookup-put-same}
use Rattle.sym_scan.specs.declared.rows.TraceRow.{TraceRow}
use Rattle.sym_scan.specs.Traces.{from_groups, is_shown, last_outcome, row_after, trace}
use Rattle.sym_scan.proofs.Standing.{trace_more, trace_part}

-- ---- lists
at_end : {A : Type 0} (xs : List A) (x : A) → slice_get (xs ++ x ∷ []) (length xs) ≡ Some x
at_end [] x = refl
at_end (y ∷ xs) x = at_end xs x

last_pushed : {A : Type 0} (xs : List A) (x : A) → last (xs ++ x ∷ []) ≡ Some x
last_pushed xs x =
    let here : length (xs ++ x ∷ []) - 1 ≡ length xs = omega (arith, length-append xs (x ∷ [])) in
    ap (slice_get (xs ++ x ∷ [])) here ∙ at_end xs x

-- ---- one row more
row_more : (key : Key) (rows : List TraceRow) (row : TraceRow) → last_outcome key (rows ++ row ∷ []) ≡ (if is_key key row.key then Some row.outcome else last_outcome key rows)
row_more key rows row = of (is_key key row.key) refl
  where
    kept : (b : Bool) → is_key key row.key ≡ b → filter (λ (r : TraceRow). is_key key r.key) (rows ++ row ∷ []) ≡ filter (λ (r : TraceRow). is_key key r.key) rows ++ cond b (row ∷ []) []
    kept b e =
        filter-append (λ (r : TraceRow). is_key key r.key) rows (row ∷ [])
        ∙ ap (λ (t : Bool). filter (λ (r : TraceRow). is_key key r.key) rows ++ cond t (row ∷ []) []) e

    of : (b : Bool) → is_key key row.key ≡ b → last_outcome key (rows ++ row ∷ []) ≡ (if b then Some row.outcome else last_outcome key rows)
    of true e =
        ap (λ (rs : List TraceRow). option_map (λ (r : TraceRow). r.outcome) (last rs)) (kept true e)
        ∙ ap (option_map (λ (r : TraceRow). r.outcome)) (last_pushed (filter (λ (r : TraceRow). is_key key r.key) rows) row)
    of false e =
        ap (λ (rs : List TraceRow). option_map (λ (r : TraceRow). r.outcome) (last rs))
        (kept false e ∙ append-nil (filter (λ (r : TraceRow). is_key key r.key) rows))

-- ---- one record more
each_shown : (rec : Record) → is_shown 1 rec ≡ true
each_shown rec = ap (λ (n : ℕ). n == 0) (mod-one rec.no)

module _ (p : ScriptPlan) (records : List Record) (rec : Record) where
  trace_next : trace p 1 (records ++ rec ∷ []) ≡ trace p 1 records ++ record { no = rec.no; key = key_of p rec; outcome = step p (from_groups p (pass p records) (key_of p rec)) rec } ∷ []
  trace_next =
      let begin = from_groups p (pass p records) in
      let row : Bool → TraceRow = λ b. record { no = rec.no; key = key_of p rec; outcome = after p (cond b (rec ∷ []) []) (begin (key_of p rec)) } in
      trace_more p 1 records (rec ∷ [])
      ∙ ap (λ (more : List TraceRow). trace p 1 records ++ more)
      (trace_part p 1 records (rec ∷ [])
      ∙ ap (λ (b : Bool). (if b then row_after p begin [] rec ∷ [] else []) ++ []) (each_shown rec)
      ∙ ap (λ (b : Bool). row b ∷ []) (same_key (key_of p rec)))

  last_next : (key : Key) → last_outcome key (trace p 1 records) ≡ lookup (is_key key) (pass p records) → last_outcome key (trace p 1 (records ++ rec ∷ [])) ≡ lookup (is_key key) (pass p (records ++ rec ∷ []))
  last_next key so_far =
      let k = key_of p rec in
      let groups = pass p records in
      let now : Outcome = step p (from_groups p groups k) rec in
      ap (last_outcome key) trace_next
      ∙ row_more key (trace p 1 records) (record { no = rec.no; key = k; outcome = now })
      ∙ of (is_key key k) refl
      ∙ ap (lookup (is_key key)) (pass_more p records (rec ∷ []))
    where
      of : (b : Bool) → is_key key (key_of p rec) ≡ b
          → (if b then Some (step p (from_groups p (pass p records) (key_of p rec)) rec) else last_outcome key (trace p 1 records))
          ≡ lookup (is_key key) (put (pass p records) (key_of p rec) (step p (from_groups p (pass p records) (key_of p rec)) rec))
      of true e =
          let k = key_of p rec in
          let groups = pass p records in
          let now : Outcome = step p (from_groups p groups k) rec in
          subst (λ (j : Key). Some now ≡ lookup (is_key j) (put groups k now)) (sym (equal_keys key k e)) (sym (lookup-put-same k now groups))
      of false e = so_far ∙ sym (lookup-put key (key_of p rec) (step p (from_groups p (pass p records) (key_of p rec)) rec) (pass p records) e)

pub last_rows : (p : ScriptPlan) (records : List Record) (key : Key) → last_outcome key (trace p 1 records) ≡ lookup (is_key key) (pass p records)
last_rows p records key = go [] records refl
  where
    go : (before rest : List Record) → last_outcome key (trace p 1 before) ≡ lookup (is_key key) (pass p before) → last_outcome key (trace p 1 (before ++ rest)) ≡ lookup (is_key key) (pass p (before ++ rest))
    go before [] h = subst (λ (rs : List Record). last_outcome key (trace p 1 rs) ≡ lookup (is_key key) (pass p rs)) (sym (append-nil before)) h
    go before (rec ∷ rest) h =
        subst (λ (rs : List Record). last_outcome key (trace p 1 rs) ≡ lookup (is_key key) (pass p rs)) (append_assoc before (rec ∷ []) rest)
        (go (before ++ rec ∷ []) rest (last_next p before rec key h))
