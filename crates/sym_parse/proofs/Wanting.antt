-- What the last token leaves to come, and which limits are raised where one is passed.
use Rattle.std.proofs.Common.{◌≡◌, ℕ, ◌<◌, ◌≤◌, ◌⊎◌, inl, inr, Bool, true, false, ◌||◌, nat_lt, if◌then◌else◌, List, [], ◌∷◌, ◌++◌, Option, Some, None, refl, ap, sym, ◌∙◌, subst, arith}
use Rattle.std.proofs.lemmas.Bool.Decides.{nat_tests}
use Rattle.sym_base.specs.declared.tree.expression.BinOp.{BinOp}
use Rattle.sym_lex.specs.declared.keyword.Keyword.{Keyword}
use Rattle.sym_lex.specs.declared.symbol.Symbol.{Symbol}
use Rattle.sym_lex.specs.declared.symbol.Symbol.TheVariants as symbol
use Rattle.sym_parse.specs.declared.error.LimitKind.{LimitKind}
use Rattle.sym_parse.specs.declared.error.LimitKind.TheVariants as limit
use Rattle.sym_parse.specs.Beginnings as begins
use Rattle.sym_parse.specs.Beginnings.{Begins, is_comma, is_opening, before_trimmed, trimmed}
use Rattle.sym_parse.specs.Lexemes.{Terminal, Lexeme, Sign, Word, IsSign, IsKeyword}
use Rattle.sym_parse.specs.Limits.{rank}
use Rattle.sym_parse.specs.Steps.{is_there}
use Rattle.sym_parse.specs.Syntax.Expressions.{op_of, of_level}

abbrev pub one : Bool → ℕ
one true = 1
one false = 0

-- How many of a kind have to come after a token: one of each list after a comma, and an operand after
-- what leaves an expression open.
abbrev pub wanted : Lexeme → LimitKind → ℕ
wanted l limit.Enums = 0
wanted l limit.Labels = one (is_comma l.terminal)
wanted l limit.Fields = 0
wanted l limit.Cells = 0
wanted l limit.Tests = 0
wanted l limit.Parameters = one (is_comma l.terminal)
wanted l limit.Parts = one (is_comma l.terminal)
wanted l limit.Statements = 0
wanted l limit.Depth = 0
wanted l limit.Operands = one (is_opening l.terminal)
wanted l limit.Columns = 0
wanted l limit.GroupFields = one (is_comma l.terminal)

-- The last of some lexemes, or the one before them.
abbrev pub final : Lexeme → List Lexeme → Lexeme
final d [] = d
final d (l ∷ ls) = final l ls

pub final-after : (d : Lexeme) (xs ys : List Lexeme) → final d (xs ++ ys) ≡ final (final d xs) ys
final-after d [] ys = refl
final-after d (l ∷ xs) ys = final-after l xs ys

-- Where a limit is passed, it is raised by one, and so are those of the kinds after it.
abbrev pub raised : LimitKind → LimitKind → ℕ
raised which k = if nat_lt (rank k) (rank which) then 0 else 1

abbrev unless : Bool → ℕ
unless b = if b then 0 else 1

pub raised-self : (k : LimitKind) → raised k k ≡ 1
raised-self k = by-test (nat_lt (rank k) (rank k)) refl
  where
    by-test : (b : Bool) → nat_lt (rank k) (rank k) ≡ b → unless b ≡ 1
    by-test true e = grind (arith, nat_tests)
    by-test false e = refl

pub raised-before : (which k : LimitKind) → rank k < rank which → raised which k ≡ 0
raised-before which k h = let e : nat_lt (rank k) (rank which) ≡ true = grind (arith, nat_tests) in rw e refl

-- ---- what begins a thing is no comma, and it leaves an expression open only where it opens a level

no-comma : (which : LimitKind) (t : Terminal) → Begins which t → is_comma t ≡ false
no-comma _ _ begins.enum = refl
no-comma _ _ _ = refl

-- Only what begins a level is open.
pub open-level : (which : LimitKind) (t : Terminal) → Begins which t → (is_opening t ≡ false) ⊎ (which ≡ limit.Depth)
open-level _ _ begins.if_level = inr refl
open-level _ _ begins.not_level = inr refl
open-level _ _ begins.minus_level = inr refl
open-level _ _ begins.paren_level = inr refl
open-level _ _ _ = inl refl

one-most : (b : Bool) → one b ≤ 1
one-most true = omega arith
one-most false = omega arith

no-comma-wanted : (which : LimitKind) (l : Lexeme) (n : ℕ) → Begins which l.terminal → one (is_comma l.terminal) ≤ n
no-comma-wanted which l n b = let e : one (is_comma l.terminal) ≡ 0 = ap one (no-comma which l.terminal b) in omega (arith, e)

operand-wanted : (which : LimitKind) (b : Bool) → (b ≡ false) ⊎ (which ≡ limit.Depth) → one b ≤ raised which limit.Operands
operand-wanted which b (inl e) = let f : one b ≡ 0 = ap one e in omega (arith, f)
operand-wanted which b (inr e) = let f : raised which limit.Operands ≡ 1 = ap (λ (w : LimitKind). raised w limit.Operands) e in omega (arith, f, one-most b)

-- What a token that passes a limit wants is raised.
pub raised-wanted : (which : LimitKind) (l : Lexeme) → Begins which l.terminal → (k : LimitKind) → wanted l k ≤ raised which k
raised-wanted which l b limit.Labels = no-comma-wanted which l (raised which limit.Labels) b
raised-wanted which l b limit.Parameters = no-comma-wanted which l (raised which limit.Parameters) b
raised-wanted which l b limit.Parts = no-comma-wanted which l (raised which limit.Parts) b
raised-wanted which l b limit.Operands = operand-wanted which (is_opening l.terminal) (open-level which l.terminal b)
raised-wanted which l b limit.GroupFields = no-comma-wanted which l (raised which limit.GroupFields) b
raised-wanted which l b _ = omega arith

-- It wants none of its kind.
pub wanted-none : (which : LimitKind) (l : Lexeme) → Begins which l.terminal → wanted l which ≡ 0
wanted-none limit.Labels l b = ap one (no-comma limit.Labels l.terminal b)
wanted-none limit.Parameters l b = ap one (no-comma limit.Parameters l.terminal b)
wanted-none limit.Parts l b = ap one (no-comma limit.Parts l.terminal b)
wanted-none limit.GroupFields l b = ap one (no-comma limit.GroupFields l.terminal b)
wanted-none limit.Operands l b = closed (open-level limit.Operands l.terminal b)
  where
    closed : (is_opening l.terminal ≡ false) ⊎ (limit.Operands ≡ limit.Depth) → one (is_opening l.terminal) ≡ 0
    closed (inl e) = ap one e
    closed (inr e) = cc
wanted-none _ l b = refl

-- ---- what leaves something open

-- After a comma stands an item.
pub item-after : (l : Lexeme) → IsSign symbol.Comma l → 1 ≤ one (is_comma l.terminal)
item-after l e = let f : one (is_comma l.terminal) ≡ 1 = ap (λ (t : Terminal). one (is_comma t)) e in omega (arith, f)

pub operand-after : (l : Lexeme) → is_opening l.terminal ≡ true → 1 ≤ wanted l limit.Operands
operand-after l e = let f : one (is_opening l.terminal) ≡ 1 = ap one e in omega (arith, f)

pub sign-opens : (s : Symbol) (l : Lexeme) → IsSign s l → is_opening (Sign s) ≡ true → 1 ≤ wanted l limit.Operands
sign-opens s l e f = operand-after l (ap is_opening e ∙ f)

pub word-opens : (k : Keyword) (l : Lexeme) → IsKeyword k l → is_opening (Word k) ≡ true → 1 ≤ wanted l limit.Operands
word-opens k l e f = operand-after l (ap is_opening e ∙ f)

or-second : (a b c : Bool) → b ≡ true → a || (b || c) ≡ true
or-second true b c e = refl
or-second false true c e = refl
or-second false false c e = cc

level-there : (level : ℕ) (o : Option BinOp) (b : BinOp) → of_level level o ≡ Some b → is_there o ≡ true
level-there level None b e = cc
level-there level (Some c) b e = refl

-- An operator of some level.
pub operator-opens : (level : ℕ) (l : Lexeme) (b : BinOp) → of_level level (op_of l.terminal) ≡ Some b → 1 ≤ wanted l limit.Operands
operator-opens level l b e = operand-after l (or-second (is_comma l.terminal) (is_there (op_of l.terminal)) _ (level-there level (op_of l.terminal) b e))

-- Where a token is known, so is what it begins.
pub begins-as : (which : LimitKind) (t u : Terminal) → t ≡ u → Begins which u → Begins which t
begins-as which t u e b = subst (λ (s : Terminal). Begins which s) (sym e) b

-- A comma.
abbrev pub comma : Lexeme
comma = record { terminal = Sign symbol.Comma; at = 0 }

-- ---- lexemes without what is open at their end

or-none : (a b : Bool) → a || b ≡ false → a ≡ false
or-none false b e = refl
or-none true b e = cc

-- What leaves nothing open wants nothing.
pub closed-wants : (l : Lexeme) → is_opening l.terminal ≡ false → (k : LimitKind) → wanted l k ≡ 0
closed-wants l e limit.Labels = ap one (or-none (is_comma l.terminal) _ e)
closed-wants l e limit.Parameters = ap one (or-none (is_comma l.terminal) _ e)
closed-wants l e limit.Parts = ap one (or-none (is_comma l.terminal) _ e)
closed-wants l e limit.Operands = ap one e
closed-wants l e limit.GroupFields = ap one (or-none (is_comma l.terminal) _ e)
closed-wants l e _ = refl

-- The rest of some lexemes.
abbrev Cut : List Lexeme → List Lexeme → Type 0
Cut ls kept = (opening : List Lexeme) × (ls ≡ kept ++ opening)

cut-one : (l : Lexeme) (b : Bool) (ls : List Lexeme) → Cut (l ∷ ls) (if b then [] else l ∷ [])
cut-one l true ls = (l ∷ ls, refl)
cut-one l false ls = (ls, refl)

cut-before : (l : Lexeme) (ls kept : List Lexeme) → Cut ls kept → Cut (l ∷ ls) (before_trimmed l kept)
cut-before l ls [] c = cut-one l (is_opening l.terminal) ls
cut-before l ls (k ∷ kept) c = (c.0, ap (λ (m : List Lexeme). l ∷ m) c.1)

pub trimmed-cut : (ls : List Lexeme) → Cut ls (trimmed ls)
unfolding trimmed
trimmed-cut [] = ([], refl)
trimmed-cut (l ∷ ls) = cut-before l ls (trimmed ls) (trimmed-cut ls)

closed-one : (d l : Lexeme) (b : Bool) → is_opening l.terminal ≡ b → is_opening d.terminal ≡ false → is_opening (final d (if b then [] else l ∷ [])).terminal ≡ false
closed-one d l true e h = h
closed-one d l false e h = e

closed-before : (d l : Lexeme) (kept : List Lexeme) → is_opening d.terminal ≡ false → is_opening (final d kept).terminal ≡ false → is_opening (final d (before_trimmed l kept)).terminal ≡ false
closed-before d l [] h e = closed-one d l (is_opening l.terminal) refl h
closed-before d l (k ∷ kept) h e = e

-- The last of them is not open.
pub trimmed-closed : (d : Lexeme) → is_opening d.terminal ≡ false → (ls : List Lexeme) → is_opening (final d (trimmed ls)).terminal ≡ false
unfolding trimmed
trimmed-closed d h [] = h
trimmed-closed d h (l ∷ ls) = closed-before d l (trimmed ls) h (trimmed-closed d h ls)

before-closed : (u : Lexeme) (kept : List Lexeme) → is_opening u.terminal ≡ false → before_trimmed u kept ≡ u ∷ kept
before-closed u [] e = rw e refl
before-closed u (k ∷ kept) e = refl

before-longer : (l u : Lexeme) (a b : List Lexeme) → before_trimmed l (a ++ u ∷ b) ≡ l ∷ (a ++ u ∷ b)
before-longer l u [] b = refl
before-longer l u (k ∷ a) b = refl

-- What isn't open stays.
pub trimmed-through : (u : Lexeme) (a b : List Lexeme) → is_opening u.terminal ≡ false → trimmed (a ++ u ∷ b) ≡ a ++ u ∷ trimmed b
unfolding trimmed
trimmed-through u [] b e = before-closed u (trimmed b) e
trimmed-through u (l ∷ a) b e = ap (before_trimmed l) (trimmed-through u a b e) ∙ before-longer l u a (trimmed b)
