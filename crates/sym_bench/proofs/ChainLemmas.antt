-- Chains that grow by a record, and what their segments make of an outcome in turn.
use Rattle.std.proofs.Common.{◌≡◌, ◌∙◌, ◌<◌, ◌+◌, ℕ, refl, sym, ap, subst, List, [], ◌∷◌, ◌++◌, Option, Some, None, ◌≤◌, Result, IfOk, suc, length, take, drop, get_or, add-one, drop-cons}
use Rattle.std.proofs.lemmas.List.{append_assoc, append-nil, drop_all}
use Rattle.std.proofs.lemmas.Option.{slice_get_read}
use Rattle.std.proofs.lemmas.Result.{IfOk-weaker}
use Rattle.sym_base.specs.declared.values.record.Record.{Record}
use Rattle.sym_base.specs.declared.values.state.Outcome.{Outcome}
use Rattle.sym_check.specs.Plan.ScriptPlans.{ScriptPlan}
use Rattle.sym_check.specs.Meaning.Updates.{after}
use Rattle.sym_check.proofs.PlanLaws.{after_append}
use Rattle.sym_path.specs.declared.path.Path.{Path}
use Rattle.sym_path.specs.Standing.{StandsFor}
use Rattle.sym_path.proofs.Lists.{take_get}
use Rattle.sym_bench.specs.declared.chain.Chain.{Chain}
use Rattle.sym_bench.specs.Chains.{StandInTurn, LastStandsFor, IsChainOf}

-- A segment more stands for more records.
pub in_turn_push : (p : ScriptPlan) (records : List Record) (segments : List (List Path)) (more : List Record) (segment : List Path) → StandInTurn p records segments → StandsFor p more segment → StandInTurn p (records ++ more) (segments ++ segment ∷ [])
in_turn_push p records [] more segment h s = (more, [], ap (λ (rs : List Record). rs ++ more) h ∙ sym (append-nil more), s, refl)
in_turn_push p records (first ∷ segments) more segment h s =
    (h.0, h.1 ++ more, ap (λ (rs : List Record). rs ++ more) h.2 ∙ append_assoc h.0 h.1 more, h.3, in_turn_push p h.1 segments more segment h.4 s)

-- The first record of a segment.
pub begun : (p : ScriptPlan) (before : List Record) (rec : Record) (old new : Chain) (now : List Path) → IsChainOf p before old → old.last ≡ None → new.whole.items ≡ old.whole.items → new.last ≡ Some now → StandsFor p (rec ∷ []) now → IsChainOf p (before ++ rec ∷ []) new
begun p before rec old new now h none whole last stands =
    let empty : h.rest ≡ [] = subst (LastStandsFor p h.rest) none h.last in
    record {
      first = h.first;
      rest = rec ∷ [];
      all = ap (λ (rs : List Record). rs ++ rec ∷ []) (h.all ∙ ap (λ (rs : List Record). h.first ++ rs) empty ∙ append-nil h.first);
      whole = subst (StandInTurn p h.first) (sym whole) h.whole;
      last = subst (LastStandsFor p (rec ∷ [])) (sym last) stands;
    }

-- A record more of the last segment.
pub longer : (p : ScriptPlan) (before : List Record) (rec : Record) (old new : Chain) (was now : List Path) → IsChainOf p before old → old.last ≡ Some was → new.whole.items ≡ old.whole.items → new.last ≡ Some now → ((rs : List Record) → StandsFor p rs was → StandsFor p (rs ++ rec ∷ []) now) → IsChainOf p (before ++ rec ∷ []) new
longer p before rec old new was now h is whole last stands = record {
  first = h.first;
  rest = h.rest ++ rec ∷ [];
  all = ap (λ (rs : List Record). rs ++ rec ∷ []) h.all ∙ append_assoc h.first h.rest (rec ∷ []);
  whole = subst (StandInTurn p h.first) (sym whole) h.whole;
  last = subst (LastStandsFor p (h.rest ++ rec ∷ [])) (sym last) (stands h.rest (subst (LastStandsFor p h.rest) is h.last));
}

-- A record with which the last segment is put away.
pub closed : (p : ScriptPlan) (before : List Record) (rec : Record) (old new : Chain) (was now : List Path) → IsChainOf p before old → old.last ≡ Some was → new.whole.items ≡ old.whole.items ++ now ∷ [] → new.last ≡ None → ((rs : List Record) → StandsFor p rs was → StandsFor p (rs ++ rec ∷ []) now) → IsChainOf p (before ++ rec ∷ []) new
closed p before rec old new was now h is whole last stands =
    let first : List Record = h.first ++ (h.rest ++ rec ∷ []) in
    record {
      first = first;
      rest = [];
      all = ap (λ (rs : List Record). rs ++ rec ∷ []) h.all ∙ append_assoc h.first h.rest (rec ∷ []) ∙ sym (append-nil first);
      whole = subst (StandInTurn p first) (sym whole)
          (in_turn_push p h.first old.whole.items (h.rest ++ rec ∷ []) now h.whole (stands h.rest (subst (LastStandsFor p h.rest) is h.last)));
      last = subst (LastStandsFor p []) (sym last) refl;
    }

-- The item of a list at an index, at the end of what came before it.
pub one_more : {A : Type 0} (before xs : List A) (i : ℕ) (x : A) → i < length xs → x ≡ get_or xs i x → before ++ take (i + 1) xs ≡ (before ++ take i xs) ++ x ∷ []
one_more before xs i x within is =
    ap (λ ys. before ++ ys) (take_get xs i x (slice_get_read xs (length xs) i x refl within is)) ∙ sym (append_assoc before (take i xs) (x ∷ []))

-- The item of a list at an index, before what is left.
pub left_from : {A : Type 0} (xs : List A) (i : ℕ) (x : A) → i < length xs → x ≡ get_or xs i x → drop i xs ≡ x ∷ drop (i + 1) xs
left_from xs i x within is = rw add-one (drop-cons xs i x within ∙ ap (λ y. y ∷ drop (suc i) xs) (sym is))

-- The records for which the segments from an index on stand lead to where all lead.
pub record IsLed (p : ScriptPlan) (segments : List (List Path)) (outcome end : Outcome) : Type 0 where
  pub rest : List Record
  pub stand : StandInTurn p rest segments
  pub leads : after p rest outcome ≡ end

-- One segment further.
pub led_on : (p : ScriptPlan) (segment : List Path) (segments : List (List Path)) (outcome next end : Outcome) → IsLed p (segment ∷ segments) outcome end → ((rs : List Record) → StandsFor p rs segment → next ≡ after p rs outcome) → IsLed p segments next end
led_on p segment segments outcome next end h leads = record {
  rest = h.stand.1;
  stand = h.stand.4;
  leads = ap (after p h.stand.1) (leads h.stand.0 h.stand.3) ∙ sym (after_append p h.stand.0 h.stand.1 outcome) ∙ ap (λ (rs : List Record). after p rs outcome) (sym h.stand.2) ∙ h.leads;
}

-- The next segment is the one at the index.
pub next_stands : (p : ScriptPlan) (segments : List (List Path)) (i : ℕ) (segment : List Path) (outcome end : Outcome) → i < length segments → segment ≡ get_or segments i segment → IsLed p (drop i segments) outcome end → IsLed p (segment ∷ drop (i + 1) segments) outcome end
next_stands p segments i segment outcome end within is h =
    subst (λ (ss : List (List Path)). IsLed p ss outcome end) (left_from segments i segment within is) h

-- Without a segment more, all is led.
led_whole : (p : ScriptPlan) (segments : List (List Path)) (i : ℕ) (outcome end : Outcome) → length segments ≤ i → IsLed p (drop i segments) outcome end → outcome ≡ end
led_whole p segments i outcome end past h =
    let led : IsLed p [] outcome end = subst (λ (ss : List (List Path)). IsLed p ss outcome end) (drop_all i segments past) h in
    ap (λ (rs : List Record). after p rs outcome) (sym led.stand) ∙ led.leads

-- The outcome of a chain whose last segment leads on from the others.
pub led_last : {E : Type 0} (p : ScriptPlan) (records : List Record) (chain : Chain) (segment : List Path) (i : ℕ) (start outcome : Outcome) (r : Result Outcome E) (h : IsChainOf p records chain) → chain.last ≡ Some segment → length chain.whole.items ≤ i → IsLed p (drop i chain.whole.items) outcome (after p h.first start) → ((rs : List Record) → StandsFor p rs segment → IfOk r (λ o. o ≡ after p rs outcome)) → IfOk r (λ o. o ≡ after p records start)
led_last p records chain segment i start outcome r h is past led leads =
    let here = led_whole p chain.whole.items i outcome (after p h.first start) past led in
    let on : after p h.rest outcome ≡ after p records start =
    ap (after p h.rest) here ∙ sym (after_append p h.first h.rest start) ∙ ap (λ (rs : List Record). after p rs start) (sym h.all) in
    IfOk-weaker r (λ o. o ≡ after p h.rest outcome) (λ o. o ≡ after p records start) (λ o e. e ∙ on)
    (leads h.rest (subst (LastStandsFor p h.rest) is h.last))

-- The outcome of a chain without a last segment.
pub led_all : (p : ScriptPlan) (records : List Record) (chain : Chain) (i : ℕ) (start outcome : Outcome) (h : IsChainOf p records chain) → chain.last ≡ None → length chain.whole.items ≤ i → IsLed p (drop i chain.whole.items) outcome (after p h.first start) → outcome ≡ after p records start
led_all p records chain i start outcome h none past led =
    let empty : h.rest ≡ [] = subst (LastStandsFor p h.rest) none h.last in
    led_whole p chain.whole.items i outcome (after p h.first start) past led
    ∙ ap (λ (rs : List Record). after p rs start) (sym (h.all ∙ ap (λ (rs : List Record). h.first ++ rs) empty ∙ append-nil h.first))
