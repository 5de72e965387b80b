-- The rules and the function agree on statements: the plan of a statement is what the function
-- answers, with the scope and the number after it, and so is the first broken rule in it.
use Rattle.std.proofs.Common.{◌≡◌, sym, ap, ◌∙◌, subst, ℕ, ◌⊎◌, inl, inr, Result, Ok, Err}
use Rattle.sym_base.specs.Trees.{StmtTree, StmtsTree}
use Rattle.sym_check.specs.declared.elaborate.error.CheckErr.{CheckErr}
use Rattle.sym_check.specs.Plan.DoPlans.{DoPlan, DosPlan}
use Rattle.sym_check.specs.Rules.Scopes.{Scope}
use Rattle.sym_check.specs.Rules.Statements.{IsStmt, IsBlock}
use Rattle.sym_check.specs.Breaks.Statements.{BreaksStmt, BreaksBlock}
use Rattle.sym_check.specs.Elaborate.Statements.{PlannedDo, PlannedDos, statement, block}
use Rattle.sym_check.proofs.Agreements.{Agrees}
use Rattle.sym_check.proofs.BlocksComplete as complete
use Rattle.sym_check.proofs.BlocksFound.{StmtOutcome, planned, unplanned, stmt_outcome, BlockOutcome, block_is, block_breaks, block_outcome}
use Rattle.sym_check.proofs.BlockFaults as faults

pub stmt_planned : (hidden s : Scope) (n : ℕ) (d : StmtTree) (p : DoPlan) (later : Scope) (m : ℕ)
    → IsStmt hidden s n d p later m
    → statement hidden s n d ≡ Ok (record { plan = p; scope = later; next = m })
stmt_planned = complete.stmt_planned

stmt_of : (hidden s : Scope) (n : ℕ) (d : StmtTree) (r : PlannedDo) → statement hidden s n d ≡ Ok r → StmtOutcome hidden s n d → IsStmt hidden s n d r.plan r.scope r.next
stmt_of hidden s n d r p (planned q e h) = let P : PlannedDo → Type 0 = λ k. IsStmt hidden s n d k.plan k.scope k.next in let same : q ≡ r = cc (p, e) in subst P same h
stmt_of hidden s n d r p (unplanned f e b) = absurd (cc)

pub planned_stmt : (hidden s : Scope) (n : ℕ) (d : StmtTree) (r : PlannedDo)
    → statement hidden s n d ≡ Ok r
    → IsStmt hidden s n d r.plan r.scope r.next
planned_stmt hidden s n d r p = stmt_of hidden s n d r p (stmt_outcome hidden s n d)

pub breaks_stmt_planned : (hidden s : Scope) (n : ℕ) (d : StmtTree) (f : CheckErr)
    → BreaksStmt hidden s n d f
    → statement hidden s n d ≡ Err f
breaks_stmt_planned = faults.breaks_stmt_planned

stmt_fault_of : (hidden s : Scope) (n : ℕ) (d : StmtTree) (f : CheckErr) → statement hidden s n d ≡ Err f → StmtOutcome hidden s n d → BreaksStmt hidden s n d f
stmt_fault_of hidden s n d f p (planned q e h) = absurd (cc)
stmt_fault_of hidden s n d f p (unplanned g e b) = let P : CheckErr → Type 0 = BreaksStmt hidden s n d in let same : g ≡ f = cc (p, e) in subst P same b

pub planned_breaks_stmt : (hidden s : Scope) (n : ℕ) (d : StmtTree) (f : CheckErr)
    → statement hidden s n d ≡ Err f
    → BreaksStmt hidden s n d f
planned_breaks_stmt hidden s n d f p = stmt_fault_of hidden s n d f p (stmt_outcome hidden s n d)

-- Blocks.
pub block_planned : (hidden s : Scope) (n : ℕ) (b : StmtsTree) (p : DosPlan) (m : ℕ)
    → IsBlock hidden s n b p m
    → block hidden s n b ≡ Ok (record { plan = p; next = m })
block_planned = complete.block_planned

block_of : (hidden s : Scope) (n : ℕ) (b : StmtsTree) (r : PlannedDos) → block hidden s n b ≡ Ok r → BlockOutcome hidden s n b → IsBlock hidden s n b r.plan r.next
block_of hidden s n b r p (block_is q e h) = let P : PlannedDos → Type 0 = λ k. IsBlock hidden s n b k.plan k.next in let same : q ≡ r = cc (p, e) in subst P same h
block_of hidden s n b r p (block_breaks f e i) = absurd (cc)

pub planned_block : (hidden s : Scope) (n : ℕ) (b : StmtsTree) (r : PlannedDos)
    → block hidden s n b ≡ Ok r
    → IsBlock hidden s n b r.plan r.next
planned_block hidden s n b r p = block_of hidden s n b r p (block_outcome hidden s n b)

pub breaks_block_planned : (hidden s : Scope) (n : ℕ) (b : StmtsTree) (f : CheckErr)
    → BreaksBlock hidden s n b f
    → block hidden s n b ≡ Err f
breaks_block_planned = faults.breaks_block_planned

block_fault_of : (hidden s : Scope) (n : ℕ) (b : StmtsTree) (f : CheckErr) → block hidden s n b ≡ Err f → BlockOutcome hidden s n b → BreaksBlock hidden s n b f
block_fault_of hidden s n b f p (block_is q e h) = absurd (cc)
block_fault_of hidden s n b f p (block_breaks g e i) = let P : CheckErr → Type 0 = BreaksBlock hidden s n b in let same : g ≡ f = cc (p, e) in subst P same i

pub planned_breaks_block : (hidden s : Scope) (n : ℕ) (b : StmtsTree) (f : CheckErr)
    → block hidden s n b ≡ Err f
    → BreaksBlock hidden s n b f
planned_breaks_block hidden s n b f p = block_fault_of hidden s n b f p (block_outcome hidden s n b)

pub stmt_agrees : (hidden s : Scope) (n : ℕ) (d : StmtTree) → Agrees (λ (r : PlannedDo). IsStmt hidden s n d r.plan r.scope r.next) (BreaksStmt hidden s n d) (statement hidden s n d)
stmt_agrees hidden s n d = record {
  complete = λ r h. stmt_planned hidden s n d r.plan r.scope r.next h;
  sound = planned_stmt hidden s n d;
  finds = breaks_stmt_planned hidden s n d;
  breaks = planned_breaks_stmt hidden s n d;
}

pub block_agrees : (hidden s : Scope) (n : ℕ) (b : StmtsTree) → Agrees (λ (r : PlannedDos). IsBlock hidden s n b r.plan r.next) (BreaksBlock hidden s n b) (block hidden s n b)
block_agrees hidden s n b = record {
  complete = λ r h. block_planned hidden s n b r.plan r.next h;
  sound = planned_block hidden s n b;
  finds = breaks_block_planned hidden s n b;
  breaks = planned_breaks_block hidden s n b;
}

-- So a block has a plan or a first broken rule,
pub always : (hidden s : Scope) (n : ℕ) (b : StmtsTree) → ((p : DosPlan) × (m : ℕ) × IsBlock hidden s n b p m) ⊎ ((f : CheckErr) × BreaksBlock hidden s n b f)
always hidden s n b = go (block_outcome hidden s n b)
  where
    go : BlockOutcome hidden s n b → ((p : DosPlan) × (m : ℕ) × IsBlock hidden s n b p m) ⊎ ((f : CheckErr) × BreaksBlock hidden s n b f)
    go (block_is r e h) = inl (r.plan, r.next, h)
    go (block_breaks f e i) = inr (f, i)

-- one at most, and never both.
ok_same : (q r : PlannedDos) → ◌≡◌ {A = Result PlannedDos CheckErr} (Ok q) (Ok r) → q ≡ r
ok_same q r e = cc

pub one_plan : (hidden s : Scope) (n m k : ℕ) (b : StmtsTree) (p q : DosPlan) → IsBlock hidden s n b p m → IsBlock hidden s n b q k → (p ≡ q) × (m ≡ k)
one_plan hidden s n m k b p q h i =
    let e : block hidden s n b ≡ Ok (record { plan = p; next = m }) = block_planned hidden s n b p m h in
    let g : block hidden s n b ≡ Ok (record { plan = q; next = k }) = block_planned hidden s n b q k i in
    let left : PlannedDos = record { plan = p; next = m } in
    let right : PlannedDos = record { plan = q; next = k } in
    let same : left ≡ right = ok_same left right (sym e ∙ g) in
    (ap (λ (r : PlannedDos). r.plan) same, ap (λ (r : PlannedDos). r.next) same)

pub one_fault : (hidden s : Scope) (n : ℕ) (b : StmtsTree) (f g : CheckErr) → BreaksBlock hidden s n b f → BreaksBlock hidden s n b g → f ≡ g
one_fault hidden s n b f g h i =
    let p : block hidden s n b ≡ Err f = breaks_block_planned hidden s n b f h in
    let q : block hidden s n b ≡ Err g = breaks_block_planned hidden s n b g i in
    cc

pub never_both : (hidden s : Scope) (n m : ℕ) (b : StmtsTree) (p : DosPlan) (f : CheckErr) → IsBlock hidden s n b p m → BreaksBlock hidden s n b f → ⊥
never_both hidden s n m b p f h i =
    let e : block hidden s n b ≡ Ok (record { plan = p; next = m }) = block_planned hidden s n b p m h in
    let q : block hidden s n b ≡ Err f = breaks_block_planned hidden s n b f i in
    cc
