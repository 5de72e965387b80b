-- A step does to a state whose lists go on from older ones what it does to the state alone.
use Rattle.std.proofs.Common.{◌≡◌, ℕ, zero, suc, ℤ, Bool, true, false, List, [], ◌∷◌, ◌++◌, Option, Some, None, Result, Ok, Err, refl, sym, ap, ◌∙◌, subst, append_assoc}
use Rattle.std.specs.Prelude.{slice_get, slice_set, IfOk, if◌then◌else◌, not, ◌==◌}
use Rattle.std.specs.List.{AllZip}
use Rattle.sym_base.specs.declared.values.value.Value.{Value}
use Rattle.sym_base.specs.declared.values.record.Record.{Record}
use Rattle.sym_base.specs.declared.values.state.Cell.{Cell}
use Rattle.sym_base.specs.declared.values.state.Cell.TheVariants as cell
use Rattle.sym_base.specs.declared.values.state.State.{State}
use Rattle.sym_base.specs.declared.values.state.FaultKind.{FaultKind}
use Rattle.sym_base.specs.declared.values.state.Outcome.{Outcome}
use Rattle.sym_base.specs.declared.values.state.Outcome.TheVariants.{Going, Ended}
use Rattle.sym_base.specs.States.{cell_label, cell_number, cell_parts, cell_nums, cell_words, label_at, number_at, parts_at, nums_at, words_at, with_cell}
use Rattle.sym_base.specs.Tests.{Truth}
use Rattle.sym_base.specs.Comparing.{compares}
use Rattle.sym_check.specs.declared.evaluate.arithmetic.Arith.{Arith}
use Rattle.sym_check.specs.declared.evaluate.pairs.Pair.{Pair}
use Rattle.sym_check.specs.declared.plan.script.EnumPlan.{EnumPlan}
use Rattle.sym_check.specs.declared.plan.script.CellPlan.{CellPlan}
use Rattle.sym_check.specs.declared.plan.script.CellPlan.TheVariants as plan
use Rattle.sym_check.specs.Meaning.Arithmetic.{and_then}
use Rattle.sym_check.specs.Meaning.Conditions.{truth, test_truth}
use Rattle.sym_check.specs.Meaning.FixedValues.{Environment, number, word_of, label_of, fixed_value, fixed_values}
use Rattle.sym_check.specs.Meaning.LineValues.{pair, pair_at, term_number}
use Rattle.sym_check.specs.Meaning.Updates.{or_fault, with_int, with_pushed, stored, environment, environment_after, do_step, dos_step, at_record, step}
use Rattle.sym_check.specs.Meaning.Validity.{IsValid, IsValidOutcome, IsValidCell}
use Rattle.sym_check.specs.Meaning.Validity as valid
use Rattle.sym_check.specs.Plan.CellKinds.{IsIntCell, IsNumsCell, IsWordsCell}
use Rattle.sym_check.specs.Plan.CondPlans.{CondPlan, Compared, Words, CellIs, LabelIs, Test, Not, And, Or}
use Rattle.sym_check.specs.Plan.DoPlans.{DoPlan, Let, SetInt, SetEnum, CopyEnum, Keep, KeepFrom, PushNum, PushWord, If, DosPlan, End, Then}
use Rattle.sym_check.specs.Plan.LinePlans.{TermPlan, OfNum, OfLine}
use Rattle.sym_check.specs.Plan.Ranges.{landed}
use Rattle.sym_check.specs.Plan.ScriptPlans.{ScriptPlan}
use Rattle.sym_check.specs.Plan.WellFormed.{IsWellFormed, Kinds, known_kinds, IsDo, IsDos}
use Rattle.sym_check.specs.Plan.WellFormed as well
use Rattle.sym_known.specs.Fronts.{in_front, with_fronts, fronted, outcome_fronted}

-- A reader that sees the same of a cell with a list before its own sees the same of the states.
read_same : {A : Type 0} (r : Option Cell → A) → ((o c : Cell) → r (Some (in_front o c)) ≡ r (Some c)) → (olds cells : List Cell) (i : ℕ) → r (slice_get (with_fronts olds cells) i) ≡ r (slice_get cells i)
read_same r same [] cells i = refl
read_same r same (o ∷ olds) [] i = refl
read_same r same (o ∷ olds) (c ∷ cells) zero = same o c
read_same r same (o ∷ olds) (c ∷ cells) (suc i) = read_same r same olds cells i

label_same : (o c : Cell) → cell_label (Some (in_front o c)) ≡ cell_label (Some c)
label_same o (cell.Enum l) = refl
label_same o (cell.Int x) = refl
label_same o (cell.Hold parts) = refl
label_same o (cell.Nums xs) = refl
label_same o (cell.Words ts) = refl

number_same : (o c : Cell) → cell_number (Some (in_front o c)) ≡ cell_number (Some c)
number_same o (cell.Enum l) = refl
number_same o (cell.Int x) = refl
number_same o (cell.Hold parts) = refl
number_same o (cell.Nums xs) = refl
number_same o (cell.Words ts) = refl

parts_same : (o c : Cell) → cell_parts (Some (in_front o c)) ≡ cell_parts (Some c)
parts_same o (cell.Enum l) = refl
parts_same o (cell.Int x) = refl
parts_same o (cell.Hold parts) = refl
parts_same o (cell.Nums xs) = refl
parts_same o (cell.Words ts) = refl

-- A content that has no list is put in alike.
set_same : (olds cells : List Cell) (i : ℕ) (content : Cell) → ((o : Cell) → in_front o content ≡ content) → slice_set (with_fronts olds cells) i content ≡ with_fronts olds (slice_set cells i content)
set_same [] cells i content same = refl
set_same (o ∷ olds) [] i content same = refl
set_same (o ∷ olds) (c ∷ cells) zero content same = ap (λ d. d ∷ with_fronts olds cells) (sym (same o))
set_same (o ∷ olds) (c ∷ cells) (suc i) content same = ap (λ ds. in_front o c ∷ ds) (set_same olds cells i content same)

-- One element more is put after the older list and the own one.
num_same : (olds cells : List Cell) (i : ℕ) (xs : List ℤ) (x : ℤ) → slice_get cells i ≡ Some (cell.Nums xs) →
    slice_set (with_fronts olds cells) i (cell.Nums (cell_nums (slice_get (with_fronts olds cells) i) ++ x ∷ [])) ≡ with_fronts olds (slice_set cells i (cell.Nums (xs ++ x ∷ [])))
num_same [] cells i xs x e = rw e refl
num_same (o ∷ olds) [] i xs x e = refl
num_same (o ∷ olds) (cell.Nums ys ∷ cells) zero xs x e =
    let same : ys ≡ xs = cc in
    subst (λ zs. (cell.Nums ((cell_nums (Some o) ++ ys) ++ x ∷ []) ∷ with_fronts olds cells) ≡ (cell.Nums (cell_nums (Some o) ++ (zs ++ x ∷ [])) ∷ with_fronts olds cells)) same
    (ap (λ zs. cell.Nums zs ∷ with_fronts olds cells) (append_assoc (cell_nums (Some o)) ys (x ∷ [])))
num_same (o ∷ olds) (cell.Enum l ∷ cells) zero xs x e = absurd (cc)
num_same (o ∷ olds) (cell.Int y ∷ cells) zero xs x e = absurd (cc)
num_same (o ∷ olds) (cell.Hold parts ∷ cells) zero xs x e = absurd (cc)
num_same (o ∷ olds) (cell.Words ts ∷ cells) zero xs x e = absurd (cc)
num_same (o ∷ olds) (c ∷ cells) (suc i) xs x e = ap (λ ds. in_front o c ∷ ds) (num_same olds cells i xs x e)

word_same : (olds cells : List Cell) (i : ℕ) (ts : List (List ℕ)) (t : List ℕ) → slice_get cells i ≡ Some (cell.Words ts) →
    slice_set (with_fronts olds cells) i (cell.Words (cell_words (slice_get (with_fronts olds cells) i) ++ t ∷ [])) ≡ with_fronts olds (slice_set cells i (cell.Words (ts ++ t ∷ [])))
word_same [] cells i ts t e = rw e refl
word_same (o ∷ olds) [] i ts t e = refl
word_same (o ∷ olds) (cell.Words us ∷ cells) zero ts t e =
    let same : us ≡ ts = cc in
    subst (λ vs. (cell.Words ((cell_words (Some o) ++ us) ++ t ∷ []) ∷ with_fronts olds cells) ≡ (cell.Words (cell_words (Some o) ++ (vs ++ t ∷ [])) ∷ with_fronts olds cells)) same
    (ap (λ vs. cell.Words vs ∷ with_fronts olds cells) (append_assoc (cell_words (Some o)) us (t ∷ [])))
word_same (o ∷ olds) (cell.Enum l ∷ cells) zero ts t e = absurd (cc)
word_same (o ∷ olds) (cell.Int y ∷ cells) zero ts t e = absurd (cc)
word_same (o ∷ olds) (cell.Hold parts ∷ cells) zero ts t e = absurd (cc)
word_same (o ∷ olds) (cell.Nums xs ∷ cells) zero ts t e = absurd (cc)
word_same (o ∷ olds) (c ∷ cells) (suc i) ts t e = ap (λ ds. in_front o c ∷ ds) (word_same olds cells i ts t e)

-- What a term and a condition are.
term_same : (olds : List Cell) (k : Environment) (t : TermPlan) (s : State) → term_number k t (fronted olds s) ≡ term_number k t s
term_same olds k (OfNum n) s = refl
term_same olds k (OfLine l) s = go (pair k l)
  where
    go : (r : Result Pair Arith) → and_then (λ (p : Pair). Ok (pair_at p (number_at (fronted olds s) p.cell))) r ≡ and_then (λ (p : Pair). Ok (pair_at p (number_at s p.cell))) r
    go (Ok p) = ap (λ x. Ok (pair_at p x)) (read_same cell_number number_same olds s.cells p.cell)
    go (Err e) = refl

-- Both sides of `and` and of `or`, where the right ones are the same.
and_side : (l r r' : Result Bool Arith) → r ≡ r' → and_then (λ (x : Bool). if x then r else Ok x) l ≡ and_then (λ (x : Bool). if x then r' else Ok x) l
and_side l r r' e = rw e refl

or_side : (l r r' : Result Bool Arith) → r ≡ r' → and_then (λ (x : Bool). if x then Ok x else r) l ≡ and_then (λ (x : Bool). if x then Ok x else r') l
or_side l r r' e = rw e refl

truth_same : (olds : List Cell) (tests : Truth) (k : Environment) (c : CondPlan) (s : State) → truth tests k c (fronted olds s) ≡ truth tests k c s
truth_same olds tests k (Compared compare t n) s = ap (λ r. and_then (λ (x : ℤ). and_then (λ (y : ℤ). Ok (compares compare x y)) (number k n)) r) (term_same olds k t s)
truth_same olds tests k (Words v w) s = refl
truth_same olds tests k (CellIs c l) s = ap (λ x. Ok (x == label_of k l)) (read_same cell_label label_same olds s.cells c)
truth_same olds tests k (LabelIs l m) s = refl
truth_same olds tests k (Test test c args) s = ap (λ parts. and_then (λ (values : List Value). Ok (tests test values parts)) (fixed_values k args)) (read_same cell_parts parts_same olds s.cells c)
truth_same olds tests k (Not c) s = ap (λ r. and_then (λ (x : Bool). Ok (not x)) r) (truth_same olds tests k c s)
truth_same olds tests k (And c d) s =
    ap (λ l. and_then (λ (x : Bool). if x then truth tests k d (fronted olds s) else Ok x) l) (truth_same olds tests k c s)
    ∙ (and_side (truth tests k c s) (truth tests k d (fronted olds s)) (truth tests k d s) (truth_same olds tests k d s))
truth_same olds tests k (Or c d) s =
    ap (λ l. and_then (λ (x : Bool). if x then Ok x else truth tests k d (fronted olds s)) l) (truth_same olds tests k c s)
    ∙ (or_side (truth tests k c s) (truth tests k d (fronted olds s)) (truth tests k d s) (truth_same olds tests k d s))

-- A cell of numbers or words holds such a list, as it does in each valid state.
abbrev HoldsList : CellPlan → Cell → Type 0
HoldsList (plan.Int lo hi first clamp) c = Unit {0}
HoldsList (plan.Nums lo hi clamp) c = (xs : List ℤ) × (c ≡ cell.Nums xs)
HoldsList plan.Words c = (ts : List (List ℕ)) × (c ≡ cell.Words ts)
HoldsList (plan.Hold kinds first) c = Unit {0}
HoldsList (plan.Enum enum first) c = Unit {0}

abbrev HoldLists : ScriptPlan → State → Type 0
HoldLists p s = AllZip HoldsList p.cells s.cells

valid_holds : (enums : List EnumPlan) (cp : CellPlan) (c : Cell) → IsValidCell enums cp c → HoldsList cp c
valid_holds enums _ _ (valid.int lo hi first clamp x h) = tt
valid_holds enums _ _ (valid.nums lo hi clamp xs h) = (xs, refl)
valid_holds enums _ _ (valid.words ts) = (ts, refl)
valid_holds enums _ _ (valid.hold kinds first parts h) = tt
valid_holds enums _ _ (valid.enum of first l h) = tt

valid_hold : (enums : List EnumPlan) (cps : List CellPlan) (cells : List Cell) → AllZip (IsValidCell enums) cps cells → AllZip HoldsList cps cells
valid_hold enums [] [] h = tt
valid_hold enums [] (c ∷ cells) h = absurd h
valid_hold enums (cp ∷ cps) [] h = absurd h
valid_hold enums (cp ∷ cps) (c ∷ cells) h = (valid_holds enums cp c h.0, valid_hold enums cps cells h.1)

-- What stands beside an item, and an item that is replaced beside what suits it.
zip_get : {A B : Type 0} (R : A → B → Type 0) (xs : List A) (ys : List B) (i : ℕ) (x : A) → AllZip R xs ys → slice_get xs i ≡ Some x → (y : B) × (slice_get ys i ≡ Some y) × R x y
zip_get R [] [] i x h e = absurd (cc)
zip_get R [] (b ∷ ys) i x h e = absurd h
zip_get R (a ∷ xs) [] i x h e = absurd h
zip_get {A} R (a ∷ xs) (b ∷ ys) zero x h e = let same : a ≡ x = cc in let P : A → Type 0 = λ v. R v b in (b, refl, subst P same h.0)
zip_get R (a ∷ xs) (b ∷ ys) (suc i) x h e = zip_get R xs ys i x h.1 e

zip_set : {A B : Type 0} (R : A → B → Type 0) (xs : List A) (ys : List B) (i : ℕ) (x : A) (y : B) → AllZip R xs ys → slice_get xs i ≡ Some x → R x y → AllZip R xs (slice_set ys i y)
zip_set R [] [] i x y h e r = tt
zip_set R [] (b ∷ ys) i x y h e r = absurd h
zip_set R (a ∷ xs) [] i x y h e r = absurd h
zip_set {A} R (a ∷ xs) (b ∷ ys) zero x y h e r = let same : x ≡ a = cc in let P : A → Type 0 = λ v. R v y in (subst P same r, h.1)
zip_set R (a ∷ xs) (b ∷ ys) (suc i) x y h e r = (h.0, zip_set R xs ys i x y h.1 e r)

-- The state that a statement leads to, with lists before its own.
abbrev after_fronted : List Cell → Result State FaultKind → Result State FaultKind
after_fronted olds (Ok s) = Ok (fronted olds s)
after_fronted olds (Err kind) = Err kind

-- A statement does the same to the state with the lists as alone, and leaves lists in list cells.
record Same (p : ScriptPlan) (olds : List Cell) (with_olds alone : Result State FaultKind) : Type 0 where
  same : with_olds ≡ after_fronted olds alone
  lists : IfOk alone (HoldLists p)

calculated_same : {A : Type 0} (p : ScriptPlan) (olds : List Cell) (f g : A → Result State FaultKind) (r : Result A Arith) → ((x : A) → Same p olds (f x) (g x)) → Same p olds (and_then f (or_fault r)) (and_then g (or_fault r))
calculated_same p olds f g (Ok x) h = h x
calculated_same p olds f g (Err e) h = record { same = refl; lists = tt }

landed_same : (p : ScriptPlan) (olds : List Cell) (f g : ℤ → Result State FaultKind) (r : Result ℤ FaultKind) → ((x : ℤ) → Same p olds (f x) (g x)) → Same p olds (and_then f r) (and_then g r)
landed_same p olds f g (Ok x) h = h x
landed_same p olds f g (Err e) h = record { same = refl; lists = tt }

put_same : (p : ScriptPlan) (olds : List Cell) (s : State) (c : ℕ) (cp : CellPlan) (content : Cell) → ((o : Cell) → in_front o content ≡ content) → HoldLists p s → slice_get p.cells c ≡ Some cp → HoldsList cp content →
    Same p olds (Ok (with_cell (fronted olds s) c content)) (Ok (with_cell s c content))
put_same p olds s c cp content same h e l = record {
  same = ap (λ (cells : List Cell). Ok (record { cells = cells })) (set_same olds s.cells c content same);
  lists = zip_set HoldsList p.cells s.cells c cp content h e l;
}

num_pushed : (p : ScriptPlan) (olds : List Cell) (s : State) (c : ℕ) (x : ℤ) → HoldLists p s → (w : IsNumsCell p.cells c) → Same p olds (Ok (with_pushed c x (fronted olds s))) (Ok (with_pushed c x s))
num_pushed p olds s c x h w = go (zip_get HoldsList p.cells s.cells c (plan.Nums w.lo w.hi w.clamp) h w.is)
  where
    go : (content : Cell) × (slice_get s.cells c ≡ Some content) × HoldsList (plan.Nums w.lo w.hi w.clamp) content → Same p olds (Ok (with_pushed c x (fronted olds s))) (Ok (with_pushed c x s))
    go (content, e, (xs, is)) =
        let there : slice_get s.cells c ≡ Some (cell.Nums xs) = e ∙ ap Some is in
        record {
          same = rw there (ap (λ (cells : List Cell). Ok (record { cells = cells })) (num_same olds s.cells c xs x there));
          lists = zip_set HoldsList p.cells s.cells c (plan.Nums w.lo w.hi w.clamp) (cell.Nums (nums_at s c ++ x ∷ [])) h w.is (nums_at s c ++ x ∷ [], refl);
        }

word_pushed : (p : ScriptPlan) (olds : List Cell) (s : State) (c : ℕ) (t : List ℕ) → HoldLists p s → IsWordsCell p.cells c →
    Same p olds (Ok (with_cell (fronted olds s) c (cell.Words (words_at (fronted olds s) c ++ t ∷ [])))) (Ok (with_cell s c (cell.Words (words_at s c ++ t ∷ []))))
word_pushed p olds s c t h w = go (zip_get HoldsList p.cells s.cells c plan.Words h w.is)
  where
    go : (content : Cell) × (slice_get s.cells c ≡ Some content) × HoldsList plan.Words content →
        Same p olds (Ok (with_cell (fronted olds s) c (cell.Words (words_at (fronted olds s) c ++ t ∷ [])))) (Ok (with_cell s c (cell.Words (words_at s c ++ t ∷ []))))
    go (content, e, (ts, is)) =
        let there : slice_get s.cells c ≡ Some (cell.Words ts) = e ∙ ap Some is in
        record {
          same = rw there (ap (λ (cells : List Cell). Ok (record { cells = cells })) (word_same olds s.cells c ts t there));
          lists = zip_set HoldsList p.cells s.cells c plan.Words (cell.Words (words_at s c ++ t ∷ [])) h w.is (words_at s c ++ t ∷ [], refl);
        }

chosen_same : (p : ScriptPlan) (olds : List Cell) (a b c d : Result State FaultKind) (x : Bool) → Same p olds a c → Same p olds b d → Same p olds (if x then a else b) (if x then c else d)
chosen_same p olds a b c d true h k = h
chosen_same p olds a b c d false h k = k

followed_same : (p : ScriptPlan) (olds : List Cell) (f : State → Result State FaultKind) (a b : Result State FaultKind) → Same p olds a b → ((s : State) → HoldLists p s → Same p olds (f (fronted olds s)) (f s)) → Same p olds (and_then f a) (and_then f b)
followed_same p olds f a (Ok s) h goes = rw h.same (goes s h.lists)
followed_same p olds f a (Err kind) h goes = rw h.same (record { same = refl; lists = tt })

-- A calculation that reads the same of both.
read_then : {A : Type 0} (p : ScriptPlan) (olds : List Cell) (f g : A → Result State FaultKind) (r r' : Result A Arith) → r ≡ r' → ((x : A) → Same p olds (f x) (g x)) → Same p olds (and_then f (or_fault r)) (and_then g (or_fault r'))
read_then p olds f g r r' e h = rw e (calculated_same p olds f g r' h)

mutual
  do_same : (p : ScriptPlan) (olds : List Cell) (k later : Kinds) (d : DoPlan) → IsDo p k d later → (v : Environment) (s : State) → HoldLists p s → Same p olds (do_step p v d (fronted olds s)) (do_step p v d s)
  do_same p olds _ _ _ (well.let_value k n last e free t) v s h =
      calculated_same p olds (λ (x : Value). Ok (fronted olds s)) (λ (x : Value). Ok s) (fixed_value v e) (λ x. record { same = refl; lists = h })
  do_same p olds _ _ _ (well.set_int k c t w u) v s h =
      read_then p olds (λ (x : ℤ). stored p c (with_int c) x (fronted olds s)) (λ (x : ℤ). stored p c (with_int c) x s) (term_number v t (fronted olds s)) (term_number v t s) (term_same olds v t s)
      (λ x. landed_same p olds (λ (y : ℤ). Ok (with_int c y (fronted olds s))) (λ (y : ℤ). Ok (with_int c y s)) (landed p.cells c x)
      (λ y. put_same p olds s c (plan.Int w.lo w.hi w.first w.clamp) (cell.Int y) (λ o. refl) h w.is tt))
  do_same p olds _ _ _ (well.set_enum k c l w) v s h =
      put_same p olds s c (plan.Enum w.enum w.of_cell.first) (cell.Enum (label_of v l)) (λ o. refl) h w.of_cell.is tt
  do_same p olds _ _ _ (well.copy_enum k c d w) v s h =
      rw (read_same cell_label label_same olds s.cells d)
      (put_same p olds s c (plan.Enum w.enum w.to.first) (cell.Enum (label_at s d)) (λ o. refl) h w.to.is tt)
  do_same p olds _ _ _ (well.keep k c es w) v s h =
      calculated_same p olds (λ (xs : List Value). Ok (with_cell (fronted olds s) c (cell.Hold xs))) (λ (xs : List Value). Ok (with_cell s c (cell.Hold xs))) (fixed_values v es)
      (λ xs. put_same p olds s c (plan.Hold w.parts w.is_hold.first) (cell.Hold xs) (λ o. refl) h w.is_hold.is tt)
  do_same p olds _ _ _ (well.keep_from k c d w) v s h =
      rw (read_same cell_parts parts_same olds s.cells d)
      (put_same p olds s c (plan.Hold w.parts w.to.first) (cell.Hold (parts_at s d)) (λ o. refl) h w.to.is tt)
  do_same p olds _ _ _ (well.push_num k c t w u) v s h =
      read_then p olds (λ (x : ℤ). stored p c (with_pushed c) x (fronted olds s)) (λ (x : ℤ). stored p c (with_pushed c) x s) (term_number v t (fronted olds s)) (term_number v t s) (term_same olds v t s)
      (λ x. landed_same p olds (λ (y : ℤ). Ok (with_pushed c y (fronted olds s))) (λ (y : ℤ). Ok (with_pushed c y s)) (landed p.cells c x)
      (λ y. num_pushed p olds s c y h w))
  do_same p olds _ _ _ (well.push_word k c w u t) v s h = word_pushed p olds s c (word_of v w) h u
  do_same p olds _ _ _ (well.branch k c a b t ta tb) v s h =
      let left : Same p olds (dos_step p v a (fronted olds s)) (dos_step p v a s) = dos_same p olds k a ta v s h in
      let right : Same p olds (dos_step p v b (fronted olds s)) (dos_step p v b s) = dos_same p olds k b tb v s h in
      read_then p olds (λ (x : Bool). if x then dos_step p v a (fronted olds s) else dos_step p v b (fronted olds s)) (λ (x : Bool). if x then dos_step p v a s else dos_step p v b s)
      (truth (test_truth p.tests) v c (fronted olds s)) (truth (test_truth p.tests) v c s) (truth_same olds (test_truth p.tests) v c s)
      (λ x. chosen_same p olds (dos_step p v a (fronted olds s)) (dos_step p v b (fronted olds s)) (dos_step p v a s) (dos_step p v b s) x left right)

  dos_same : (p : ScriptPlan) (olds : List Cell) (k : Kinds) (ds : DosPlan) → IsDos p k ds → (v : Environment) (s : State) → HoldLists p s → Same p olds (dos_step p v ds (fronted olds s)) (dos_step p v ds s)
  dos_same p olds _ _ (well.finished k) v s h = record { same = refl; lists = h }
  dos_same p olds _ _ (well.followed k later d rest t r) v s h =
      followed_same p olds (λ (s' : State). dos_step p (environment_after v d) rest s') (do_step p v d (fronted olds s)) (do_step p v d s)
      (do_same p olds k later d t v s h)
      (λ s' g. dos_same p olds later rest r (environment_after v d) s' g)

recorded_same : (olds : List Cell) (n : ℕ) (a b : Result State FaultKind) → a ≡ after_fronted olds b → at_record n a ≡ outcome_fronted olds (at_record n b)
recorded_same olds n a (Ok s) e = rw e refl
recorded_same olds n a (Err kind) e = rw e refl

-- A record does to a group whose lists go on from older ones what it does to the group alone.
pub step_fronted : (p : ScriptPlan) (olds : List Cell) (o : Outcome) (rec : Record) → IsWellFormed p → IsValidOutcome p o → step p (outcome_fronted olds o) rec ≡ outcome_fronted olds (step p o rec)
step_fronted p olds (Going s) rec w h =
    recorded_same olds rec.no (dos_step p (environment rec []) p.update (fronted olds s)) (dos_step p (environment rec []) p.update s)
    (dos_same p olds (known_kinds p) p.update w.update (environment rec []) s (valid_hold p.enums p.cells s.cells h)).same
step_fronted p olds (Ended fault) rec w h = refl
