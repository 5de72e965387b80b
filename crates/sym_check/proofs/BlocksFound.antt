-- A statement has a plan or a first broken rule, and the function answers it.
use Rattle.std.proofs.Common.{◌≡◌, refl, sym, subst, ◌∙◌, ℕ, ◌+◌, Bool, true, false, true≢false, List, [], ◌∷◌, ◌++◌, length, Option, Some, None, Ok, Err}
use Rattle.std.specs.Prelude.{◌≢◌, ◌==◌}
use Rattle.std.specs.Cmp.Lexicographic.{pointwise}
use Rattle.sym_base.specs.declared.tree.name.Name.{Name}
use Rattle.sym_base.specs.Trees.{ExprTree, ExprsTree, StmtTree, Let, Set, Push, Keep, KeepFrom, If, StmtsTree, Done, Then}
use Rattle.sym_check.specs.declared.plan.expression.LabelOf.{LabelOf}
use Rattle.sym_check.specs.declared.plan.script.KindPlan.{KindPlan}
use Rattle.sym_check.specs.declared.plan.script.KindPlan.TheVariants as kind
use Rattle.sym_check.specs.Plan.FixedPlans.{FixedPlan}
use Rattle.sym_check.specs.Plan.FixedPlans as fixed
use Rattle.sym_check.specs.Plan.LinePlans as line
use Rattle.sym_check.specs.Plan.CondPlans.{CondPlan}
use Rattle.sym_check.specs.Plan.DoPlans.{DoPlan, DosPlan}
use Rattle.sym_check.specs.Plan.DoPlans as plan
use Rattle.sym_check.specs.declared.elaborate.error.CheckErr.{CheckErr}
use Rattle.sym_check.specs.declared.elaborate.error.CheckErr.TheVariants as broken
use Rattle.sym_check.specs.declared.elaborate.scope.Meaning.{Meaning}
use Rattle.sym_check.specs.declared.elaborate.scope.Meaning.TheVariants as meaning
use Rattle.sym_check.specs.Rules.Scopes.{Scope, find, Stands, IsFree}
use Rattle.sym_check.specs.Rules.Typing.{Typed, Number, Word, Label, EnumCell, HoldCell, Truth, Means, IsLabel, IsValue, IsCondition}
use Rattle.sym_check.specs.Rules.Typing as typing
use Rattle.sym_check.specs.Breaks.Expressions.{place, AreOperands}
use Rattle.sym_check.specs.Elaborate.Expressions.{kind_at, same_kind, Located, infer, operands, condition}
use Rattle.sym_check.specs.Rules.Statements.{local_entry, IsStmt, IsBlock}
use Rattle.sym_check.specs.Rules.Statements as fits
use Rattle.sym_check.specs.Breaks.Statements.{IsAssignedCell, IsPushedCell, IsKeptCell, BreaksName, Names, HasNoPlan, BreaksStmt, BreaksBlock}
use Rattle.sym_check.specs.Breaks.Statements as rule
use Rattle.sym_check.specs.Elaborate.Statements.{let_value, assigned, pushed, kept, PlannedDo, PlannedDos, statement, block}
use Rattle.sym_check.proofs.SameKinds.{kinds_are_same, same_number, numbers_are_same}
use Rattle.sym_check.proofs.ExpressionsComplete.{one_meaning}
use Rattle.sym_check.proofs.OperatorsFound.{is_num, is_term, is_word, is_label, is_condition}
use Rattle.sym_check.proofs.ValuesFound.{AreFound, found_operands, ValuesOutcome, values_are, value_is_wrong, values_outcome}
use Rattle.sym_check.proofs.ExpressionsFound.{Outcome, means, breaks, outcome, OperandsOutcome, found, unfound, operands_outcome}
use Rattle.sym_check.proofs.BlocksComplete.{LetInferred, let_inferred, no_plan}

-- What the function answers, with the rule that says so.
pub data StmtOutcome (hidden s : Scope) (n : ℕ) (d : StmtTree) : Type 0 where
  planned : (r : PlannedDo) → statement hidden s n d ≡ Ok r → IsStmt hidden s n d r.plan r.scope r.next → StmtOutcome hidden s n d
  unplanned : (f : CheckErr) → statement hidden s n d ≡ Err f → BreaksStmt hidden s n d f → StmtOutcome hidden s n d

pub data BlockOutcome (hidden s : Scope) (n : ℕ) (b : StmtsTree) : Type 0 where
  block_is : (r : PlannedDos) → block hidden s n b ≡ Ok r → IsBlock hidden s n b r.plan r.next → BlockOutcome hidden s n b
  block_breaks : (f : CheckErr) → block hidden s n b ≡ Err f → BreaksBlock hidden s n b f → BlockOutcome hidden s n b

-- Most statements leave the scope and the number as they are.
planned_here : (hidden s : Scope) (n : ℕ) (d : StmtTree) (p : DoPlan) → statement hidden s n d ≡ Ok (record { plan = p; scope = s; next = n }) → IsStmt hidden s n d p s n → StmtOutcome hidden s n d
planned_here hidden s n d p q h = planned (record { plan = p; scope = s; next = n }) q h

-- Locals.
let_planned : (hidden s : Scope) (n : ℕ) (x : Name) (e : ExprTree) (k : KindPlan) (v : FixedPlan)
    → IsFree hidden x
    → IsFree s x
    → IsValue s k e v
    → LetInferred s k e v
    → StmtOutcome hidden s n (Let x e)
let_planned hidden s n x e k v free_there free_here h r =
    planned (record { plan = plan.Let n v; scope = s ++ local_entry x n k ∷ []; next = n + 1 })
    (rw (free_there.missing, free_here.missing, r.inferred, r.is_value) refl)
    (fits.let_value s n x e k v free_there free_here h)

no_let_value : (s : Scope) (e : ExprTree) (t : Typed) (f : CheckErr) → infer s e ≡ Ok t → let_value (place e) t ≡ Err f → (k : KindPlan) (v : FixedPlan) → IsValue s k e v → ⊥
no_let_value s e t f p q k v h =
    let r : LetInferred s k e v = let_inferred s k e v h in
    let same : r.typed ≡ t = cc (r.inferred, p) in
    let P : Typed → Type 0 = λ u. let_value (place e) u ≡ Ok (record { kind = k; value = v }) in
    let other : let_value (place e) t ≡ Ok (record { kind = k; value = v }) = subst P same r.is_value in
    cc (q, other)

let_refused : (hidden s : Scope) (n : ℕ) (x : Name) (e : ExprTree) (t : Typed) → IsFree hidden x → IsFree s x → infer s e ≡ Ok t → Means s e t → let_value (place e) t ≡ kind_at (place e) → StmtOutcome hidden s n (Let x e)
let_refused hidden s n x e t free_there free_here p h q =
    unplanned (broken.Kind (place e)) (rw (free_there.missing, free_here.missing, p, q) refl) (rule.no_value s n x e t free_there free_here h (no_let_value s e t (broken.Kind (place e)) p q))

let_of : (hidden s : Scope) (n : ℕ) (x : Name) (e : ExprTree) (t : Typed) → IsFree hidden x → IsFree s x → infer s e ≡ Ok t → Means s e t → StmtOutcome hidden s n (Let x e)
let_of hidden s n x e (Number (line.OfNum m)) ft fh p h =
    let v : IsValue s kind.Num e (fixed.OfNum m) = typing.num_value e m (is_num s e m h) in
    let_planned hidden s n x e kind.Num (fixed.OfNum m) ft fh v (let_inferred s kind.Num e (fixed.OfNum m) v)
let_of hidden s n x e (Number (line.OfLine k)) ft fh p h = let_refused hidden s n x e (Number (line.OfLine k)) ft fh p h refl
let_of hidden s n x e (Word w) ft fh p h =
    let v : IsValue s kind.Word e (fixed.OfWord w) = typing.word_value e w (is_word s e w h) in
    let_planned hidden s n x e kind.Word (fixed.OfWord w) ft fh v (let_inferred s kind.Word e (fixed.OfWord w) v)
let_of hidden s n x e (Label enum l) ft fh p h =
    let v : IsValue s (kind.Label enum) e (fixed.OfLabel l) = typing.label_value enum e l (is_label s e enum l h) in
    let_planned hidden s n x e (kind.Label enum) (fixed.OfLabel l) ft fh v (let_inferred s (kind.Label enum) e (fixed.OfLabel l) v)
let_of hidden s n x e (EnumCell c enum) ft fh p h = let_refused hidden s n x e (EnumCell c enum) ft fh p h refl
let_of hidden s n x e (HoldCell c ks) ft fh p h = let_refused hidden s n x e (HoldCell c ks) ft fh p h refl
let_of hidden s n x e (Truth c) ft fh p h = let_refused hidden s n x e (Truth c) ft fh p h refl

let_free : (hidden s : Scope) (n : ℕ) (x : Name) (e : ExprTree) → IsFree hidden x → IsFree s x → Outcome s e → StmtOutcome hidden s n (Let x e)
let_free hidden s n x e ft fh (means t p h) = let_of hidden s n x e t ft fh p h
let_free hidden s n x e ft fh (breaks f p b) = unplanned f (rw (ft.missing, fh.missing, p) refl) (rule.in_let s n x e f ft fh b)

let_here : (hidden s : Scope) (n : ℕ) (x : Name) (e : ExprTree) (o : Option Meaning) → IsFree hidden x → find s x.text ≡ o → Outcome s e → StmtOutcome hidden s n (Let x e)
let_here hidden s n x e None ft p r = let_free hidden s n x e ft (record { missing = p }) r
let_here hidden s n x e (Some m) ft p r = unplanned (broken.Twice x.at) (rw (ft.missing, p) refl) (rule.let_taken s n x e m (record { found = p }))

let_outcome : (hidden s : Scope) (n : ℕ) (x : Name) (e : ExprTree) (o : Option Meaning) → find hidden x.text ≡ o → Outcome s e → StmtOutcome hidden s n (Let x e)
let_outcome hidden s n x e None p r = let_here hidden s n x e (find s x.text) (record { missing = p }) refl r
let_outcome hidden s n x e (Some m) p r = unplanned (broken.Twice x.at) (rw p refl) (rule.let_hidden s n x e m (record { found = p }))

-- Assignments: to an integer cell,
set_refused : (hidden s : Scope) (n : ℕ) (x : Name) (e : ExprTree) (t : Typed) → Names s IsAssignedCell x → Means s e t → statement hidden s n (Set x e) ≡ kind_at (place e) → StmtOutcome hidden s n (Set x e)
set_refused hidden s n x e t names h q = unplanned (broken.Kind (place e)) q (rule.not_assigned s n x e t names h (no_plan hidden s n (Set x e) (broken.Kind (place e)) q))

int_set : (hidden s : Scope) (n : ℕ) (x : Name) (e : ExprTree) (c : ℕ) (t : Typed) → Stands s x (meaning.IntCell c) → infer s e ≡ Ok t → Means s e t → StmtOutcome hidden s n (Set x e)
int_set hidden s n x e c (Number t) st p h = planned_here hidden s n (Set x e) (plan.SetInt c t) (rw (st.found, p) refl) (fits.set_int s n x e c t st (is_term s e t h))
int_set hidden s n x e c t st p h = set_refused hidden s n x e t (record { meaning = meaning.IntCell c; stands = st; is_wanted = tt }) h (rw (st.found, p) refl)

-- and to an enum cell.
enum_names : (s : Scope) (x : Name) (c enum : ℕ) → Stands s x (meaning.EnumCell c enum) → Names s IsAssignedCell x
enum_names s x c enum st = record { meaning = meaning.EnumCell c enum; stands = st; is_wanted = tt }

label_set : (hidden s : Scope) (n : ℕ) (x : Name) (e : ExprTree) (c enum other : ℕ) (l : LabelOf) (b : Bool) → (enum == other) ≡ b → Stands s x (meaning.EnumCell c enum) → infer s e ≡ Ok (Label other l) → Means s e (Label other l) → StmtOutcome hidden s n (Set x e)
label_set hidden s n x e c enum other l true q st p h =
    let P : ℕ → Type 0 = λ k. IsLabel s k e l in
    planned_here hidden s n (Set x e) (plan.SetEnum c l) (rw (st.found, p, q) refl) (fits.set_enum s n x e c enum l st (subst P (sym (numbers_are_same enum other q)) (is_label s e other l h)))
label_set hidden s n x e c enum other l false q st p h = set_refused hidden s n x e (Label other l) (enum_names s x c enum st) h (rw (st.found, p, q) refl)

cell_set : (hidden s : Scope) (n : ℕ) (x : Name) (e : ExprTree) (c enum d other : ℕ) → enum ≡ other → c ≢ d → Stands s x (meaning.EnumCell c enum) → Means s e (EnumCell d other) → IsStmt hidden s n (Set x e) (plan.CopyEnum c d) s n
cell_set hidden s n x _ c enum d other same differs st (typing.enum_cell y _ _ sy) =
    let P : ℕ → Type 0 = λ k. Stands s y (meaning.EnumCell d k) in
    fits.copy_enum s n x y c d enum st (subst P (sym same) sy) differs

copy_set : (hidden s : Scope) (n : ℕ) (x : Name) (e : ExprTree) (c enum d other : ℕ) (a b : Bool)
    → (enum == other) ≡ a
    → (c == d) ≡ b
    → Stands s x (meaning.EnumCell c enum)
    → infer s e ≡ Ok (EnumCell d other)
    → Means s e (EnumCell d other)
    → StmtOutcome hidden s n (Set x e)
copy_set hidden s n x e c enum d other false b q q' st p h = set_refused hidden s n x e (EnumCell d other) (enum_names s x c enum st) h (rw (st.found, p, q) refl)
copy_set hidden s n x e c enum d other true true q q' st p h = set_refused hidden s n x e (EnumCell d other) (enum_names s x c enum st) h (rw (st.found, p, q, q') refl)
copy_set hidden s n x e c enum d other true false q q' st p h =
    let differs : c ≢ d = λ same. absurd (true≢false (sym (same_number c d same) ∙ q')) in
    planned_here hidden s n (Set x e) (plan.CopyEnum c d) (rw (st.found, p, q, q') refl) (cell_set hidden s n x e c enum d other (numbers_are_same enum other q) differs st h)

enum_set : (hidden s : Scope) (n : ℕ) (x : Name) (e : ExprTree) (c enum : ℕ) (t : Typed) → Stands s x (meaning.EnumCell c enum) → infer s e ≡ Ok t → Means s e t → StmtOutcome hidden s n (Set x e)
enum_set hidden s n x e c enum (Label other l) st p h = label_set hidden s n x e c enum other l (enum == other) refl st p h
enum_set hidden s n x e c enum (EnumCell d other) st p h = copy_set hidden s n x e c enum d other (enum == other) (c == d) refl refl st p h
enum_set hidden s n x e c enum t st p h = set_refused hidden s n x e t (enum_names s x c enum st) h (rw (st.found, p) refl)

set_named : (hidden s : Scope) (n : ℕ) (x : Name) (e : ExprTree) (m : Meaning) → find s x.text ≡ Some m → assigned x.at (Some m) ≡ kind_at x.at → (IsAssignedCell m → ⊥) → StmtOutcome hidden s n (Set x e)
set_named hidden s n x e m p q other = unplanned (broken.Kind x.at) (rw (p, q) refl) (rule.set_name s n x e (broken.Kind x.at) (rule.wrong_cell m (record { found = p }) other))

int_set_outcome : (hidden s : Scope) (n : ℕ) (x : Name) (e : ExprTree) (c : ℕ) → Stands s x (meaning.IntCell c) → Outcome s e → StmtOutcome hidden s n (Set x e)
int_set_outcome hidden s n x e c st (means t p h) = int_set hidden s n x e c t st p h
int_set_outcome hidden s n x e c st (breaks f p b) = unplanned f (rw (st.found, p) refl) (rule.in_set s n x e f (record { meaning = meaning.IntCell c; stands = st; is_wanted = tt }) b)

enum_set_outcome : (hidden s : Scope) (n : ℕ) (x : Name) (e : ExprTree) (c enum : ℕ) → Stands s x (meaning.EnumCell c enum) → Outcome s e → StmtOutcome hidden s n (Set x e)
enum_set_outcome hidden s n x e c enum st (means t p h) = enum_set hidden s n x e c enum t st p h
enum_set_outcome hidden s n x e c enum st (breaks f p b) = unplanned f (rw (st.found, p) refl) (rule.in_set s n x e f (enum_names s x c enum st) b)

set_outcome : (hidden s : Scope) (n : ℕ) (x : Name) (e : ExprTree) (o : Option Meaning) → find s x.text ≡ o → Outcome s e → StmtOutcome hidden s n (Set x e)
set_outcome hidden s n x e None p r = unplanned (broken.Name x.at) (rw p refl) (rule.set_name s n x e (broken.Name x.at) (rule.unknown (record { missing = p })))
set_outcome hidden s n x e (Some meaning.Unfinished) p r = set_named hidden s n x e meaning.Unfinished p refl (λ i. i)
set_outcome hidden s n x e (Some (meaning.Enum enum)) p r = set_named hidden s n x e (meaning.Enum enum) p refl (λ i. i)
set_outcome hidden s n x e (Some (meaning.Label enum l)) p r = set_named hidden s n x e (meaning.Label enum l) p refl (λ i. i)
set_outcome hidden s n x e (Some (meaning.Value k v)) p r = set_named hidden s n x e (meaning.Value k v) p refl (λ i. i)
set_outcome hidden s n x e (Some (meaning.IntCell c)) p r = int_set_outcome hidden s n x e c (record { found = p }) r
set_outcome hidden s n x e (Some (meaning.EnumCell c enum)) p r = enum_set_outcome hidden s n x e c enum (record { found = p }) r
set_outcome hidden s n x e (Some (meaning.HoldCell c ks)) p r = set_named hidden s n x e (meaning.HoldCell c ks) p refl (λ i. i)
set_outcome hidden s n x e (Some (meaning.NumsCell c)) p r = set_named hidden s n x e (meaning.NumsCell c) p refl (λ i. i)
set_outcome hidden s n x e (Some (meaning.WordsCell c)) p r = set_named hidden s n x e (meaning.WordsCell c) p refl (λ i. i)
set_outcome hidden s n x e (Some (meaning.Test t ks)) p r = set_named hidden s n x e (meaning.Test t ks) p refl (λ i. i)

-- Pushes: to a list of numbers, and to one of words.
push_refused : (hidden s : Scope) (n : ℕ) (x : Name) (e : ExprTree) (t : Typed) → Names s IsPushedCell x → Means s e t → statement hidden s n (Push x e) ≡ kind_at (place e) → StmtOutcome hidden s n (Push x e)
push_refused hidden s n x e t names h q = unplanned (broken.Kind (place e)) q (rule.not_pushed s n x e t names h (no_plan hidden s n (Push x e) (broken.Kind (place e)) q))

nums_push : (hidden s : Scope) (n : ℕ) (x : Name) (e : ExprTree) (c : ℕ) (t : Typed) → Stands s x (meaning.NumsCell c) → infer s e ≡ Ok t → Means s e t → StmtOutcome hidden s n (Push x e)
nums_push hidden s n x e c (Number t) st p h = planned_here hidden s n (Push x e) (plan.PushNum c t) (rw (st.found, p) refl) (fits.push_num s n x e c t st (is_term s e t h))
nums_push hidden s n x e c t st p h = push_refused hidden s n x e t (record { meaning = meaning.NumsCell c; stands = st; is_wanted = tt }) h (rw (st.found, p) refl)

words_push : (hidden s : Scope) (n : ℕ) (x : Name) (e : ExprTree) (c : ℕ) (t : Typed) → Stands s x (meaning.WordsCell c) → infer s e ≡ Ok t → Means s e t → StmtOutcome hidden s n (Push x e)
words_push hidden s n x e c (Word w) st p h = planned_here hidden s n (Push x e) (plan.PushWord c w) (rw (st.found, p) refl) (fits.push_word s n x e c w st (is_word s e w h))
words_push hidden s n x e c t st p h = push_refused hidden s n x e t (record { meaning = meaning.WordsCell c; stands = st; is_wanted = tt }) h (rw (st.found, p) refl)

push_named : (hidden s : Scope) (n : ℕ) (x : Name) (e : ExprTree) (m : Meaning) → find s x.text ≡ Some m → pushed x.at (Some m) ≡ kind_at x.at → (IsPushedCell m → ⊥) → StmtOutcome hidden s n (Push x e)
push_named hidden s n x e m p q other = unplanned (broken.Kind x.at) (rw (p, q) refl) (rule.push_name s n x e (broken.Kind x.at) (rule.wrong_cell m (record { found = p }) other))

nums_push_outcome : (hidden s : Scope) (n : ℕ) (x : Name) (e : ExprTree) (c : ℕ) → Stands s x (meaning.NumsCell c) → Outcome s e → StmtOutcome hidden s n (Push x e)
nums_push_outcome hidden s n x e c st (means t p h) = nums_push hidden s n x e c t st p h
nums_push_outcome hidden s n x e c st (breaks f p b) = unplanned f (rw (st.found, p) refl) (rule.in_push s n x e f (record { meaning = meaning.NumsCell c; stands = st; is_wanted = tt }) b)

words_push_outcome : (hidden s : Scope) (n : ℕ) (x : Name) (e : ExprTree) (c : ℕ) → Stands s x (meaning.WordsCell c) → Outcome s e → StmtOutcome hidden s n (Push x e)
words_push_outcome hidden s n x e c st (means t p h) = words_push hidden s n x e c t st p h
words_push_outcome hidden s n x e c st (breaks f p b) = unplanned f (rw (st.found, p) refl) (rule.in_push s n x e f (record { meaning = meaning.WordsCell c; stands = st; is_wanted = tt }) b)

push_outcome : (hidden s : Scope) (n : ℕ) (x : Name) (e : ExprTree) (o : Option Meaning) → find s x.text ≡ o → Outcome s e → StmtOutcome hidden s n (Push x e)
push_outcome hidden s n x e None p r = unplanned (broken.Name x.at) (rw p refl) (rule.push_name s n x e (broken.Name x.at) (rule.unknown (record { missing = p })))
push_outcome hidden s n x e (Some meaning.Unfinished) p r = push_named hidden s n x e meaning.Unfinished p refl (λ i. i)
push_outcome hidden s n x e (Some (meaning.Enum enum)) p r = push_named hidden s n x e (meaning.Enum enum) p refl (λ i. i)
push_outcome hidden s n x e (Some (meaning.Label enum l)) p r = push_named hidden s n x e (meaning.Label enum l) p refl (λ i. i)
push_outcome hidden s n x e (Some (meaning.Value k v)) p r = push_named hidden s n x e (meaning.Value k v) p refl (λ i. i)
push_outcome hidden s n x e (Some (meaning.IntCell c)) p r = push_named hidden s n x e (meaning.IntCell c) p refl (λ i. i)
push_outcome hidden s n x e (Some (meaning.EnumCell c enum)) p r = push_named hidden s n x e (meaning.EnumCell c enum) p refl (λ i. i)
push_outcome hidden s n x e (Some (meaning.HoldCell c ks)) p r = push_named hidden s n x e (meaning.HoldCell c ks) p refl (λ i. i)
push_outcome hidden s n x e (Some (meaning.NumsCell c)) p r = nums_push_outcome hidden s n x e c (record { found = p }) r
push_outcome hidden s n x e (Some (meaning.WordsCell c)) p r = words_push_outcome hidden s n x e c (record { found = p }) r
push_outcome hidden s n x e (Some (meaning.Test t ks)) p r = push_named hidden s n x e (meaning.Test t ks) p refl (λ i. i)

-- What a `keep` names: a hold cell, or what goes wrong.
data KeptView (s : Scope) (x : Name) : Type 0 where
  is_kept : (c : ℕ) (ks : List KindPlan) → Stands s x (meaning.HoldCell c ks) → KeptView s x
  no_kept : (f : CheckErr) → kept x.at (find s x.text) ≡ Err f → BreaksName s IsKeptCell x f → KeptView s x

other_kept : (s : Scope) (x : Name) (m : Meaning) → find s x.text ≡ Some m → kept x.at (Some m) ≡ kind_at x.at → (IsKeptCell m → ⊥) → KeptView s x
other_kept s x m p q other = no_kept (broken.Kind x.at) (rw p q) (rule.wrong_cell m (record { found = p }) other)

kept_view : (s : Scope) (x : Name) (o : Option Meaning) → find s x.text ≡ o → KeptView s x
kept_view s x None p = no_kept (broken.Name x.at) (rw p refl) (rule.unknown (record { missing = p }))
kept_view s x (Some meaning.Unfinished) p = other_kept s x meaning.Unfinished p refl (λ i. i)
kept_view s x (Some (meaning.Enum enum)) p = other_kept s x (meaning.Enum enum) p refl (λ i. i)
kept_view s x (Some (meaning.Label enum l)) p = other_kept s x (meaning.Label enum l) p refl (λ i. i)
kept_view s x (Some (meaning.Value k v)) p = other_kept s x (meaning.Value k v) p refl (λ i. i)
kept_view s x (Some (meaning.IntCell c)) p = other_kept s x (meaning.IntCell c) p refl (λ i. i)
kept_view s x (Some (meaning.EnumCell c enum)) p = other_kept s x (meaning.EnumCell c enum) p refl (λ i. i)
kept_view s x (Some (meaning.HoldCell c ks)) p = is_kept c ks (record { found = p })
kept_view s x (Some (meaning.NumsCell c)) p = other_kept s x (meaning.NumsCell c) p refl (λ i. i)
kept_view s x (Some (meaning.WordsCell c)) p = other_kept s x (meaning.WordsCell c) p refl (λ i. i)
kept_view s x (Some (meaning.Test t ks)) p = other_kept s x (meaning.Test t ks) p refl (λ i. i)

kept_names : (s : Scope) (x : Name) (c : ℕ) (ks : List KindPlan) → Stands s x (meaning.HoldCell c ks) → Names s IsKeptCell x
kept_names s x c ks st = record { meaning = meaning.HoldCell c ks; stands = st; is_wanted = tt }

values_kept : (hidden s : Scope) (n : ℕ) (x : Name) (es : ExprsTree) (c : ℕ) (ks : List KindPlan) (located : List Located)
    → Stands s x (meaning.HoldCell c ks)
    → operands s es ≡ Ok located
    → AreFound s es located
    → length located ≡ length ks
    → ValuesOutcome s ks es located
    → StmtOutcome hidden s n (Keep x es)
values_kept hidden s n x es c ks located st p a many (values_are vs q h) =
    planned_here hidden s n (Keep x es) (plan.Keep c vs) (rw (st.found, p, same_number (length located) (length ks) many, q) refl) (fits.keep s n x es c ks vs st h)
values_kept hidden s n x es c ks located st p a many (value_is_wrong at q w) =
    let P : ℕ → Type 0 = λ k. AreOperands s es k in
    unplanned (broken.Kind at) (rw (st.found, p, same_number (length located) (length ks) many, q) refl) (rule.wrong_value s n x es c at ks st (subst P many (found_operands s es located a)) w)

number_kept : (hidden s : Scope) (n : ℕ) (x : Name) (es : ExprsTree) (c : ℕ) (ks : List KindPlan) (located : List Located) (b : Bool)
    → Stands s x (meaning.HoldCell c ks)
    → operands s es ≡ Ok located
    → AreFound s es located
    → (length located == length ks) ≡ b
    → StmtOutcome hidden s n (Keep x es)
number_kept hidden s n x es c ks located true st p a q =
    let many : length located ≡ length ks = numbers_are_same (length located) (length ks) q in
    values_kept hidden s n x es c ks located st p a many (values_outcome s ks es located a many)
number_kept hidden s n x es c ks located false st p a q =
    let differs : length located ≢ length ks = λ same. absurd (true≢false (sym (same_number (length located) (length ks) same) ∙ q)) in
    unplanned (broken.Kind x.at) (rw (st.found, p, q) refl) (rule.wrong_number s n x es c (length located) ks st (found_operands s es located a) differs)

keep_outcome : (hidden s : Scope) (n : ℕ) (x : Name) (es : ExprsTree) → KeptView s x → OperandsOutcome s es → StmtOutcome hidden s n (Keep x es)
keep_outcome hidden s n x es (no_kept f p b) r = unplanned f (rw p refl) (rule.keep_name s n x es f b)
keep_outcome hidden s n x es (is_kept c ks st) (found located p a) = number_kept hidden s n x es c ks located (length located == length ks) st p a refl
keep_outcome hidden s n x es (is_kept c ks st) (unfound f p b) = unplanned f (rw (st.found, p) refl) (rule.in_keep s n x es f (kept_names s x c ks st) b)

-- A hold cell that is kept from another of the same kinds.
from_refused : (hidden s : Scope) (n : ℕ) (x y : Name) (c d : ℕ) (ks js : List KindPlan) → Stands s x (meaning.HoldCell c ks) → Stands s y (meaning.HoldCell d js) → statement hidden s n (KeepFrom x y) ≡ kind_at y.at → StmtOutcome hidden s n (KeepFrom x y)
from_refused hidden s n x y c d ks js sx sy q =
    unplanned (broken.Kind y.at) q (rule.not_kept s n x y (kept_names s x c ks sx) (kept_names s y d js sy) (no_plan hidden s n (KeepFrom x y) (broken.Kind y.at) q))

from_kept : (hidden s : Scope) (n : ℕ) (x y : Name) (c d : ℕ) (ks js : List KindPlan) (a b : Bool)
    → Stands s x (meaning.HoldCell c ks)
    → Stands s y (meaning.HoldCell d js)
    → pointwise same_kind ks js ≡ a
    → (c == d) ≡ b
    → StmtOutcome hidden s n (KeepFrom x y)
from_kept hidden s n x y c d ks js false b sx sy q q' = from_refused hidden s n x y c d ks js sx sy (rw (sx.found, sy.found, q) refl)
from_kept hidden s n x y c d ks js true true sx sy q q' = from_refused hidden s n x y c d ks js sx sy (rw (sx.found, sy.found, q, q') refl)
from_kept hidden s n x y c d ks js true false sx sy q q' =
    let differs : c ≢ d = λ same. absurd (true≢false (sym (same_number c d same) ∙ q')) in
    let P : List KindPlan → Type 0 = λ k. Stands s y (meaning.HoldCell d k) in
    planned_here hidden s n (KeepFrom x y) (plan.KeepFrom c d) (rw (sx.found, sy.found, q, q') refl) (fits.keep_from s n x y c d ks sx (subst P (sym (kinds_are_same ks js q)) sy) differs)

keep_from_outcome : (hidden s : Scope) (n : ℕ) (x y : Name) → KeptView s x → KeptView s y → StmtOutcome hidden s n (KeepFrom x y)
keep_from_outcome hidden s n x y (no_kept f p b) v = unplanned f (rw p refl) (rule.keep_from_name s n x y f b)
keep_from_outcome hidden s n x y (is_kept c ks sx) (no_kept f p b) = unplanned f (rw (sx.found, p) refl) (rule.from_name s n x y f (kept_names s x c ks sx) b)
keep_from_outcome hidden s n x y (is_kept c ks sx) (is_kept d js sy) = from_kept hidden s n x y c d ks js (pointwise same_kind ks js) (c == d) sx sy refl refl

-- Branches.
else_outcome : (hidden s : Scope) (n : ℕ) (e : ExprTree) (a b : StmtsTree) (c : CondPlan) (r : PlannedDos) → infer s e ≡ Ok (Truth c) → IsCondition s e c → block hidden s n a ≡ Ok r → IsBlock hidden s n a r.plan r.next
    → BlockOutcome hidden s r.next b
    → StmtOutcome hidden s n (If e a b)
else_outcome hidden s n e a b c r p h q i (block_is k g j) =
    planned (record { plan = plan.If c r.plan k.plan; scope = s; next = k.next }) (rw (p, q, g) refl) (fits.branch s n r.next k.next e a b c r.plan k.plan h i j)
else_outcome hidden s n e a b c r p h q i (block_breaks f g j) = unplanned f (rw (p, q, g) refl) (rule.in_else s n r.next e a b c r.plan f h i j)

then_outcome : (hidden s : Scope) (n : ℕ) (e : ExprTree) (a b : StmtsTree) (c : CondPlan) → infer s e ≡ Ok (Truth c) → IsCondition s e c → BlockOutcome hidden s n a → ((m : ℕ) → BlockOutcome hidden s m b) → StmtOutcome hidden s n (If e a b)
then_outcome hidden s n e a b c p h (block_is r q i) right = else_outcome hidden s n e a b c r p h q i (right r.next)
then_outcome hidden s n e a b c p h (block_breaks f q i) right = unplanned f (rw (p, q) refl) (rule.in_then s n e a b c f h i)

no_condition : (hidden s : Scope) (n : ℕ) (e : ExprTree) (a b : StmtsTree) (t : Typed) → infer s e ≡ Ok t → Means s e t → condition (place e) t ≡ kind_at (place e) → ((c : CondPlan) → t ≡ Truth c → ⊥) → StmtOutcome hidden s n (If e a b)
no_condition hidden s n e a b t p h q other = unplanned (broken.Kind (place e)) (rw (p, q) refl) (rule.no_condition s n e a b t h (λ c i. other c (one_meaning s e t (Truth c) h (typing.truth e c i))))

if_of : (hidden s : Scope) (n : ℕ) (e : ExprTree) (a b : StmtsTree) (t : Typed) → infer s e ≡ Ok t → Means s e t → BlockOutcome hidden s n a → ((m : ℕ) → BlockOutcome hidden s m b) → StmtOutcome hidden s n (If e a b)
if_of hidden s n e a b (Truth c) p h left right = then_outcome hidden s n e a b c p (is_condition s e c h) left right
if_of hidden s n e a b t p h left right = no_condition hidden s n e a b t p h refl (λ c i. cc)

if_outcome : (hidden s : Scope) (n : ℕ) (e : ExprTree) (a b : StmtsTree) → Outcome s e → BlockOutcome hidden s n a → ((m : ℕ) → BlockOutcome hidden s m b) → StmtOutcome hidden s n (If e a b)
if_outcome hidden s n e a b (means t p h) left right = if_of hidden s n e a b t p h left right
if_outcome hidden s n e a b (breaks f p i) left right = unplanned f (rw p refl) (rule.in_if s n e a b f i)

-- Statements one after the other.
rest_outcome : (hidden s : Scope) (n : ℕ) (first : StmtTree) (rest : StmtsTree) (r : PlannedDo) → statement hidden s n first ≡ Ok r → IsStmt hidden s n first r.plan r.scope r.next → BlockOutcome hidden r.scope r.next rest → BlockOutcome hidden s n (Then first rest)
rest_outcome hidden s n first rest r p h (block_is k q i) =
    block_is (record { plan = plan.Then r.plan k.plan; next = k.next }) (rw (p, q) refl) (fits.followed s r.scope n r.next k.next first rest r.plan k.plan h i)
rest_outcome hidden s n first rest r p h (block_breaks f q i) = block_breaks f (rw (p, q) refl) (rule.in_rest s r.scope n r.next first rest r.plan f h i)

first_outcome : (hidden s : Scope) (n : ℕ) (first : StmtTree) (rest : StmtsTree) → StmtOutcome hidden s n first → ((later : Scope) (m : ℕ) → BlockOutcome hidden later m rest) → BlockOutcome hidden s n (Then first rest)
first_outcome hidden s n first rest (planned r p h) next = rest_outcome hidden s n first rest r p h (next r.scope r.next)
first_outcome hidden s n first rest (unplanned f p i) next = block_breaks f (rw p refl) (rule.in_statement s n first rest f i)

mutual
  pub stmt_outcome : (hidden s : Scope) (n : ℕ) (d : StmtTree) → StmtOutcome hidden s n d
  stmt_outcome hidden s n (Let x e) = let_outcome hidden s n x e (find hidden x.text) refl (outcome s e)
  stmt_outcome hidden s n (Set x e) = set_outcome hidden s n x e (find s x.text) refl (outcome s e)
  stmt_outcome hidden s n (Push x e) = push_outcome hidden s n x e (find s x.text) refl (outcome s e)
  stmt_outcome hidden s n (Keep x es) = keep_outcome hidden s n x es (kept_view s x (find s x.text) refl) (operands_outcome s es)
  stmt_outcome hidden s n (KeepFrom x y) = keep_from_outcome hidden s n x y (kept_view s x (find s x.text) refl) (kept_view s y (find s y.text) refl)
  stmt_outcome hidden s n (If e a b) = if_outcome hidden s n e a b (outcome s e) (block_outcome hidden s n a) (λ m. block_outcome hidden s m b)

  pub block_outcome : (hidden s : Scope) (n : ℕ) (b : StmtsTree) → BlockOutcome hidden s n b
  block_outcome hidden s n Done = block_is (record { plan = plan.End; next = n }) refl (fits.finished s n)
  block_outcome hidden s n (Then first rest) = first_outcome hidden s n first rest (stmt_outcome hidden s n first) (λ later m. block_outcome hidden later m rest)
