-- The plans of lawful statements are well formed where names stand for what is there.
use Rattle.std.proofs.Common.{◌≡◌, refl, ℕ, zero, suc, ◌+◌, ◌-◌, ◌≤◌, nat_le, true, ◌&&◌, replicate, length, length-append, List, [], ◌∷◌, ◌++◌, Some, slice_get, arith}
use Rattle.std.proofs.lemmas.List.{length-replicate}
use Rattle.sym_base.specs.Limits.{max_operands}
use Rattle.sym_base.specs.Sizes.{operand_count}
use Rattle.sym_base.specs.Lawful.{is_lawful_name, has_some, has_lawful_leaves, have_lawful_leaves, is_lawful_expr, are_lawful_exprs, is_lawful_stmt, are_lawful_stmts}
use Rattle.sym_base.specs.Trees.{ExprTree, ExprsTree, End, More, StmtTree, StmtsTree}
use Rattle.sym_check.specs.declared.plan.script.KindPlan.{KindPlan}
use Rattle.sym_check.specs.declared.plan.script.KindPlan.TheVariants as kind
use Rattle.sym_check.specs.Plan.DoPlans.{DoPlan, DosPlan}
use Rattle.sym_check.specs.Plan.ScriptPlans.{ScriptPlan}
use Rattle.sym_check.specs.declared.elaborate.scope.Variable.TheVariants as var
use Rattle.sym_check.specs.declared.elaborate.scope.Meaning.{Meaning}
use Rattle.sym_check.specs.declared.elaborate.scope.Meaning.TheVariants as meaning
use Rattle.sym_check.specs.Rules.Scopes.{Scope}
use Rattle.sym_check.specs.Rules.Statements.{local_entry, IsStmt, IsBlock}
use Rattle.sym_check.specs.Rules.Statements as is
use Rattle.sym_check.specs.Plan.WellFormed.{Kinds, with_kind, IsDo, IsDos}
use Rattle.sym_check.specs.Plan.WellFormed as well
use Rattle.sym_check.proofs.ScopesNamed.{IsThere, AreThere, there_more, there_as, stands_there, both_true, term_well, value_well, values_well, condition_well, fixed_word_well, fixed_label_well}

-- Lists that grow.
pub get_more : {A : Type 0} (xs ys : List A) (i : ℕ) (x : A) → slice_get xs i ≡ Some x → slice_get (xs ++ ys) i ≡ Some x
get_more [] ys i x e = absurd (cc)
get_more (y ∷ xs) ys zero x e = e
get_more (y ∷ xs) ys (suc i) x e = get_more xs ys i x e

get_replicated : {A : Type 0} (m : ℕ) (z y : A) → slice_get (replicate m z ++ y ∷ []) m ≡ Some y
get_replicated zero z y = refl
get_replicated (suc m) z y = get_replicated m z y

get_last : {A : Type 0} (xs : List A) (m : ℕ) (z y : A) (i : ℕ) → i ≡ length xs + m → slice_get (xs ++ (replicate m z ++ y ∷ [])) i ≡ Some y
get_last [] m z y i e = let same : i ≡ m = omega arith in rw same (get_replicated m z y)
get_last (x ∷ xs) m z y zero e = let no : ⊥ = omega arith in absurd no
get_last (x ∷ xs) m z y (suc i) e = get_last xs m z y i (omega arith)

long_more : {A : Type 0} (xs : List A) (m : ℕ) (z y : A) → length (xs ++ (replicate m z ++ y ∷ [])) ≡ length xs + m + 1
long_more xs m z y = rw (length-append xs _, length-append (replicate m z) _, length-replicate m z) (omega arith)

-- One local more.
local_there : (p : ScriptPlan) (k : Kinds) (n : ℕ) (last : KindPlan) (m : Meaning) → IsThere p k m → IsThere p (with_kind k n last) m
local_there p k n last (meaning.Value wanted (var.Local i)) h = get_more k.locals (replicate (n - length k.locals) kind.Num ++ last ∷ []) i wanted h
local_there p k n last (meaning.Value wanted (var.Field i)) h = h
local_there p k n last (meaning.Value wanted (var.Param i)) h = h
local_there p k n last meaning.Unfinished h = h
local_there p k n last (meaning.Enum enum) h = h
local_there p k n last (meaning.Label enum l) h = h
local_there p k n last (meaning.IntCell c) h = h
local_there p k n last (meaning.EnumCell c enum) h = h
local_there p k n last (meaning.HoldCell c ks) h = h
local_there p k n last (meaning.NumsCell c) h = h
local_there p k n last (meaning.WordsCell c) h = h
local_there p k n last (meaning.Test t ks) h = h

pub expr_leaves : (e : ExprTree) → is_lawful_expr e ≡ true → has_lawful_leaves e ≡ true
expr_leaves e h = (both_true (has_lawful_leaves e) (nat_le (operand_count e) max_operands) h).0

exprs_leaves : (es : ExprsTree) → are_lawful_exprs es ≡ true → have_lawful_leaves es ≡ true
exprs_leaves End h = refl
exprs_leaves (More e es) h =
    let b = both_true (is_lawful_expr e) (are_lawful_exprs es) h in
    rw (expr_leaves e b.0, exprs_leaves es b.1)

-- After a statement more kinds may be known, and all names still stand for what is there.
pub record StmtWell (p : ScriptPlan) (k : Kinds) (n : ℕ) (d : DoPlan) (s : Scope) (m : ℕ) : Type 0 where
  pub later : Kinds
  pub is : IsDo p k d later
  pub there : AreThere p later s
  pub few : length later.locals ≤ m
  pub more : n ≤ m

pub record BlockWell (p : ScriptPlan) (k : Kinds) (n : ℕ) (ds : DosPlan) (m : ℕ) : Type 0 where
  pub is : IsDos p k ds
  pub more : n ≤ m

-- A statement that declares no local.
same_kinds : (p : ScriptPlan) (k : Kinds) (n : ℕ) (d : DoPlan) (s : Scope) → AreThere p k s → length k.locals ≤ n → IsDo p k d k → StmtWell p k n d s n
same_kinds p k n d s there few i = record { later = k; is = i; there = there; few = few; more = omega arith }

module _ (p : ScriptPlan) where
  mutual
    pub stmt_well : (out s t : Scope) (n m : ℕ) (b : StmtTree) (d : DoPlan) → IsStmt out s n b d t m → (k : Kinds) → AreThere p k s → length k.locals ≤ n → is_lawful_stmt b ≡ true → StmtWell p k n d t m
    stmt_well out _ _ _ _ _ _ (is.let_value s n x e wanted v free new i) k there few h =
        let b = both_true (is_lawful_name x) (is_lawful_expr e) h in
        let gap : n ≡ length k.locals + (n - length k.locals) = omega arith in
        record {
          later = with_kind k n wanted;
          is = well.let_value k n wanted v few (value_well p k s there wanted e v (expr_leaves e b.1) i);
          there = there_more p (with_kind k n wanted) s (local_entry x n wanted) (there_as p p k (with_kind k n wanted) s (local_there p k n wanted) there) (get_last k.locals (n - length k.locals) kind.Num wanted n gap);
          few = rw (long_more k.locals (n - length k.locals) kind.Num wanted) (omega arith);
          more = omega arith;
        }
    stmt_well out _ _ _ _ _ _ (is.set_int s n x e c t i j) k there few h =
        let b = both_true (is_lawful_name x) (is_lawful_expr e) h in
        same_kinds p k n _ s there few (well.set_int k c t (stands_there p k s x (meaning.IntCell c) there i) (term_well p k s there e t (expr_leaves e b.1) j))
    stmt_well out _ _ _ _ _ _ (is.set_enum s n x e c enum l i j) k there few h =
        same_kinds p k n _ s there few (well.set_enum k c l (record { enum = enum; of_cell = stands_there p k s x (meaning.EnumCell c enum) there i; is_label = fixed_label_well p k s there enum e l j }))
    stmt_well out _ _ _ _ _ _ (is.copy_enum s n x y c d enum i j other) k there few h =
        same_kinds p k n _ s there few (well.copy_enum k c d (record { enum = enum; to = stands_there p k s x (meaning.EnumCell c enum) there i; from = stands_there p k s y (meaning.EnumCell d enum) there j }))
    stmt_well out _ _ _ _ _ _ (is.push_num s n x e c t i j) k there few h =
        let b = both_true (is_lawful_name x) (is_lawful_expr e) h in
        same_kinds p k n _ s there few (well.push_num k c t (stands_there p k s x (meaning.NumsCell c) there i) (term_well p k s there e t (expr_leaves e b.1) j))
    stmt_well out _ _ _ _ _ _ (is.push_word s n x e c w i j) k there few h =
        same_kinds p k n _ s there few (well.push_word k c w (stands_there p k s x (meaning.WordsCell c) there i) (fixed_word_well p k s there e w j))
    stmt_well out _ _ _ _ _ _ (is.keep s n x es c ks vs i j) k there few h =
        let b = both_true (is_lawful_name x && has_some es) (are_lawful_exprs es) h in
        same_kinds p k n _ s there few (well.keep k c vs (record { parts = ks; is_hold = stands_there p k s x (meaning.HoldCell c ks) there i; kept = values_well p k s there ks es vs (exprs_leaves es b.1) j }))
    stmt_well out _ _ _ _ _ _ (is.keep_from s n x y c d ks i j other) k there few h =
        same_kinds p k n _ s there few (well.keep_from k c d (record { parts = ks; to = stands_there p k s x (meaning.HoldCell c ks) there i; from = stands_there p k s y (meaning.HoldCell d ks) there j }))
    stmt_well out _ _ _ _ _ _ (is.branch s n m last e a b c left right i ia ib) k there few h =
        let x = both_true (is_lawful_expr e && are_lawful_stmts a) (are_lawful_stmts b) h in
        let y = both_true (is_lawful_expr e) (are_lawful_stmts a) x.0 in
        let first = block_well out s n m a left ia k there few y.1 in
        let few' : length k.locals ≤ m = omega (arith, first.more) in
        let second = block_well out s m last b right ib k there few' x.1 in
        record {
          later = k;
          is = well.branch k c left right (condition_well p k s there e c (expr_leaves e y.0) i) first.is second.is;
          there = there;
          few = omega (arith, few', second.more);
          more = omega (arith, first.more, second.more);
        }

    pub block_well : (out s : Scope) (n m : ℕ) (b : StmtsTree) (ds : DosPlan) → IsBlock out s n b ds m → (k : Kinds) → AreThere p k s → length k.locals ≤ n → are_lawful_stmts b ≡ true → BlockWell p k n ds m
    block_well out _ _ _ _ _ (is.finished s n) k there few h = record { is = well.finished k; more = omega arith }
    block_well out _ _ _ _ _ (is.followed s t n m last first rest d ds i j) k there few h =
        let b = both_true (is_lawful_stmt first) (are_lawful_stmts rest) h in
        let one = stmt_well out s t n m first d i k there few b.0 in
        let others = block_well out t m last rest ds j one.later one.there one.few b.1 in
        record { is = well.followed k one.later d ds one.is others.is; more = omega (arith, one.more, others.more) }
