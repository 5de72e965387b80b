-- A script that is read from the tokens of a text is lawful.
use Rattle.std.proofs.Common.{◌≡◌, ℕ, zero, suc, ◌≤◌, ℤ, pos, neg_ℤ, int_le, Bool, true, ◌&&◌, nat_le, List, [], ◌∷◌, ◌++◌, length, Option, refl, arith}
use Rattle.std.proofs.lemmas.Bool.Decides.{nat_tests}
use Rattle.std.proofs.lemmas.Int.{ints}
use Rattle.std.specs.List.{list_all}
use Rattle.sym_base.specs.declared.tree.name.Name.{Name as NameRecord}
use Rattle.sym_base.specs.declared.tree.declaration.EnumDecl.{EnumDecl}
use Rattle.sym_base.specs.declared.tree.declaration.FieldDecl.{FieldDecl}
use Rattle.sym_base.specs.declared.tree.declaration.KindRef.{KindRef}
use Rattle.sym_base.specs.declared.tree.declaration.Literal.{Literal}
use Rattle.sym_base.specs.declared.tree.declaration.Part.{Part}
use Rattle.sym_base.specs.declared.tree.declaration.CellDecl.{CellDecl}
use Rattle.sym_base.specs.declared.tree.declaration.StateDecl.{StateDecl}
use Rattle.sym_base.specs.declared.tree.declaration.Param.{Param}
use Rattle.sym_base.specs.Lawful.{IsLawful, is_between, is_lawful_name, is_lawful_text, is_unsigned, is_lawful_kind, is_lawful_literal, is_absent_or, is_lawful_enum, is_lawful_field, is_lawful_part, is_lawful_cell, is_lawful_state, is_lawful_param, is_lawful_expr, is_lawful_test, is_lawful_column, is_lawful_stmt, are_lawful_stmts, are_lawful_exprs, has_some}
use Rattle.sym_base.specs.Limits.{max_labels, max_group_fields, max_parts, max_parameters, max_depth, num_max, is_number}
use Rattle.sym_base.specs.Names.{is_name}
use Rattle.sym_base.specs.Sizes.{expr_depth, stmt_depth, stmts_depth, stmts_count}
use Rattle.sym_base.specs.Trees.{StmtTree, StmtsTree, TestTree, ColumnTree, ScriptTree}
use Rattle.sym_parse.specs.declared.error.LimitKind.TheVariants as limit
use Rattle.sym_parse.specs.Lexemes.{Lexeme}
use Rattle.sym_parse.specs.Limits.{most}
use Rattle.sym_parse.specs.Syntax.Statements as statements
use Rattle.sym_parse.specs.Syntax.Statements.{IsStatement, AreStatements, IsBlock, IsElse, IsIf, IsIfWithin, IsBlockWithin}
use Rattle.sym_parse.specs.Syntax.Declarations as items
use Rattle.sym_parse.specs.Syntax.Declarations.{AreItems, AreFurther, AreAtMost, AreSome, AreSeparated, IsOneName, IsNum, IsLiteral, IsKind, IsEnum, IsHeader, IsDefault, IsField, IsGroup, IsRange, IsPart, IsCell, IsState, IsParam, IsTest, IsColumn}
use Rattle.sym_parse.specs.Syntax.Scripts as scripts
use Rattle.sym_parse.specs.Syntax.Scripts.{IsUpdate, IsReport, IsScript}
use Rattle.sym_parse.proofs.Letters.{both}
use Rattle.sym_parse.proofs.LawfulExpressions.{AllSuit, join, apart, first-suits, rest-suits, name-lawful, number-lawful, text-lawful, expr-lawful, exprs-lawful}

-- ---- statements

pub record LawfulStmt (room : ℕ) (s : StmtTree) : Type 0 where
  pub lawful : is_lawful_stmt s ≡ true
  pub fits : stmt_depth s ≤ room

pub record LawfulStmts (room : ℕ) (ss : StmtsTree) : Type 0 where
  pub lawful : are_lawful_stmts ss ≡ true
  pub fits : stmts_depth ss ≤ room

module _ (room : ℕ) (IsIfHere : List Lexeme → StmtTree → Type 0) (inner : (ls : List Lexeme) (s : StmtTree) → AllSuit ls → IsIfHere ls s → LawfulStmt room s) where
  statement-lawful : (ls : List Lexeme) (s : StmtTree) → AllSuit ls → IsStatement most room IsIfHere ls s → LawfulStmt room s
  statement-lawful _ _ s (statements.binding {n} {xs} {e} w l equals end a b c d z) =
      let s1 = rest-suits w (l ∷ equals ∷ (xs ++ end ∷ [])) s in
      let s2 = rest-suits equals (xs ++ end ∷ []) (rest-suits l (equals ∷ (xs ++ end ∷ [])) s1) in
      let named = name-lawful l n b (first-suits l (equals ∷ (xs ++ end ∷ [])) s1) in
      let g = expr-lawful room xs e (apart xs (end ∷ []) s2).0 d in
      record { lawful = join (is_name n.text) (is_lawful_expr e) named g.lawful; fits = g.fits }
  statement-lawful _ _ s (statements.assignment {n} {xs} {e} l equals end b c d z) =
      let s2 = rest-suits equals (xs ++ end ∷ []) (rest-suits l (equals ∷ (xs ++ end ∷ [])) s) in
      let named = name-lawful l n b (first-suits l (equals ∷ (xs ++ end ∷ [])) s) in
      let g = expr-lawful room xs e (apart xs (end ∷ []) s2).0 d in
      record { lawful = join (is_name n.text) (is_lawful_expr e) named g.lawful; fits = g.fits }
  statement-lawful _ _ s (statements.push {n} {xs} {e} w l end a b d z) =
      let s1 = rest-suits w (l ∷ (xs ++ end ∷ [])) s in
      let named = name-lawful l n b (first-suits l (xs ++ end ∷ []) s1) in
      let g = expr-lawful room xs e (apart xs (end ∷ []) (rest-suits l (xs ++ end ∷ []) s1)).0 d in
      record { lawful = join (is_name n.text) (is_lawful_expr e) named g.lawful; fits = g.fits }
  statement-lawful _ _ s (statements.keep {n} {xs} {es} w l begin close end a b c v d z) =
      let tail : List Lexeme = xs ++ close ∷ end ∷ [] in
      let s1 = rest-suits w (l ∷ begin ∷ tail) s in
      let s2 = rest-suits begin tail (rest-suits l (begin ∷ tail) s1) in
      let named = name-lawful l n b (first-suits l (begin ∷ tail) s1) in
      let g = exprs-lawful room xs es (apart xs (close ∷ end ∷ []) s2).0 v in
      record { lawful = join (is_name n.text && has_some es) (are_lawful_exprs es) (join (is_name n.text) (has_some es) named g.some) g.lawful; fits = g.fits }
  statement-lawful _ _ s (statements.keep_from {n} {source} w l from m end a b c d z) =
      let s1 = rest-suits w (l ∷ from ∷ m ∷ end ∷ []) s in
      let s2 = rest-suits from (m ∷ end ∷ []) (rest-suits l (from ∷ m ∷ end ∷ []) s1) in
      record {
        lawful = join (is_name n.text) (is_name source.text) (name-lawful l n b (first-suits l (from ∷ m ∷ end ∷ []) s1)) (name-lawful m source d (first-suits m (end ∷ []) s2));
        fits = omega arith;
      }
  statement-lawful ls st s (statements.branch p) = inner ls st s p

  statements-lawful : (ls : List Lexeme) (ss : StmtsTree) → AllSuit ls → AreStatements most room IsIfHere ls ss → LawfulStmts room ss
  statements-lawful _ _ s statements.none = record { lawful = refl; fits = omega arith }
  statements-lawful _ _ s (statements.more {xs} {ys} {s = st} {rest} p q) =
      let t = apart xs ys s in
      let g = statement-lawful xs st t.0 p in
      let k = statements-lawful ys rest t.1 q in
      record { lawful = join (is_lawful_stmt st) (are_lawful_stmts rest) g.lawful k.lawful; fits = omega (arith, g.fits, k.fits) }

  block-lawful : (ls : List Lexeme) (ss : StmtsTree) → AllSuit ls → IsBlock most room IsIfHere ls ss → LawfulStmts room ss
  block-lawful _ _ s (statements.block {xs} {ss} begin end a p z) = statements-lawful xs ss (apart xs (end ∷ []) (rest-suits begin (xs ++ end ∷ []) s)).0 p

  else-lawful : (ls : List Lexeme) (ss : StmtsTree) → AllSuit ls → IsElse most room IsIfHere ls ss → LawfulStmts room ss
  else-lawful _ _ s statements.none = record { lawful = refl; fits = omega arith }
  else-lawful _ ss s (statements.block {xs} w is p) = block-lawful xs ss (rest-suits w xs s) p
  else-lawful _ _ s (statements.else_if {xs} {s = st} w is p) =
      let g = inner xs st (rest-suits w xs s) p in
      record { lawful = join (is_lawful_stmt st) true g.lawful refl; fits = omega (arith, g.fits) }

  if-lawful : (ls : List Lexeme) (s : StmtTree) → AllSuit ls → IsIf most room IsIfHere ls s → LawfulStmt (suc room) s
  if-lawful _ _ s (statements.branch {xs} {ys} {zs} {e} {then = a} {otherwise = b} w is p q r) =
      let t = apart xs (ys ++ zs) (rest-suits w (xs ++ (ys ++ zs)) s) in
      let u = apart ys zs t.1 in
      let g = expr-lawful room xs e t.0 p in
      let k = block-lawful ys a u.0 q in
      let o = else-lawful zs b u.1 r in
      record {
        lawful = join (is_lawful_expr e && are_lawful_stmts a) (are_lawful_stmts b) (join (is_lawful_expr e) (are_lawful_stmts a) g.lawful k.lawful) o.lawful;
        fits = omega (arith, g.fits, k.fits, o.fits);
      }

if-within-lawful : (room : ℕ) (ls : List Lexeme) (s : StmtTree) → AllSuit ls → IsIfWithin most room ls s → LawfulStmt room s
unfolding IsIfWithin
if-within-lawful zero ls st s p = absurd p
if-within-lawful (suc room) ls st s p = if-lawful room (IsIfWithin most room) (if-within-lawful room) ls st s p

update-lawful : (ls : List Lexeme) (ss : StmtsTree) → AllSuit ls → IsUpdate most ls ss → LawfulStmts max_depth ss
update-lawful _ _ s (scripts.update {xs} {ss} w is p few) = block-lawful max_depth (IsIfWithin most max_depth) (if-within-lawful max_depth) xs ss (rest-suits w xs s) p

-- ---- lists

module _ {A : Type 0} (P : List Lexeme → A → Type 0) (test : A → Bool) (each : (ls : List Lexeme) (x : A) → AllSuit ls → P ls x → test x ≡ true) where
  items-lawful : (ls : List Lexeme) (xs : List A) → AllSuit ls → AreItems P ls xs → list_all test xs ≡ true
  items-lawful _ _ s items.none = refl
  items-lawful _ _ s (items.more {xs} {ys} {a} {rest} p q) =
      let t = apart xs ys s in
      join (test a) (list_all test rest) (each xs a t.0 p) (items-lawful ys rest t.1 q)

  further-lawful : (ls : List Lexeme) (xs : List A) → AllSuit ls → AreFurther P ls xs → list_all test xs ≡ true
  further-lawful _ _ s items.none = refl
  further-lawful _ _ s (items.more {xs} {ys} {a} {rest} comma c p q) =
      let t = apart xs ys (rest-suits comma (xs ++ ys) s) in
      join (test a) (list_all test rest) (each xs a t.0 p) (further-lawful ys rest t.1 q)

  pub record Listed (least most : ℕ) (xs : List A) : Type 0 where
    between : is_between least most (length xs) ≡ true
    lawful : list_all test xs ≡ true

  some-lawful : (n : ℕ) (ls : List Lexeme) (xs : List A) → AllSuit ls → AreSome n P ls xs → Listed 1 n xs
  some-lawful n _ _ s (items.some {xs} {ys} {a} {rest} p q few) =
      let t = apart xs ys s in
      let least : nat_le 1 (length (a ∷ rest)) ≡ true = grind (arith, nat_tests) in
      let most : nat_le (length (a ∷ rest)) n ≡ true = grind (arith, nat_tests) in
      record { between = join (nat_le 1 (length (a ∷ rest))) (nat_le (length (a ∷ rest)) n) least most; lawful = join (test a) (list_all test rest) (each xs a t.0 p) (items-lawful ys rest t.1 q) }

  separated-lawful : (n : ℕ) (ls : List Lexeme) (xs : List A) → AllSuit ls → AreSeparated n P ls xs → Listed 1 n xs
  separated-lawful n _ _ s (items.some {xs} {ys} {a} {rest} p q few) =
      let t = apart xs ys s in
      let least : nat_le 1 (length (a ∷ rest)) ≡ true = grind (arith, nat_tests) in
      let most : nat_le (length (a ∷ rest)) n ≡ true = grind (arith, nat_tests) in
      record { between = join (nat_le 1 (length (a ∷ rest))) (nat_le (length (a ∷ rest)) n) least most; lawful = join (test a) (list_all test rest) (each xs a t.0 p) (further-lawful ys rest t.1 q) }

  any-lawful : (n : ℕ) (ls : List Lexeme) (xs : List A) → AllSuit ls → AreAtMost n P ls xs → (length xs ≤ n) × (list_all test xs ≡ true)
  any-lawful n ls xs s (items.any p few) = (few, items-lawful ls xs s p)

-- ---- declarations

one-name : (ls : List Lexeme) (n : NameRecord) → AllSuit ls → IsOneName ls n → is_lawful_name n ≡ true
one-name _ n s (items.name l is) = name-lawful l n is (first-suits l [] s)

unsigned-number : (n : ℤ) → is_unsigned n ≡ true → is_number n ≡ true
unfolding is_unsigned is_number
unsigned-number n h = let p = both (int_le (pos 0) n) (int_le n (pos num_max)) h in grind (arith, ints)

minus-number : (n : ℤ) → is_unsigned n ≡ true → is_number (neg_ℤ n) ≡ true
unfolding is_unsigned is_number
minus-number n h = let p = both (int_le (pos 0) n) (int_le n (pos num_max)) h in grind (arith, ints)

num-lawful : (ls : List Lexeme) (n : ℤ) → AllSuit ls → IsNum ls n → is_number n ≡ true
num-lawful _ n s (items.plain l is) = unsigned-number n (number-lawful l n is (first-suits l [] s))
num-lawful _ _ s (items.minus {n} m l a is) = minus-number n (number-lawful l n is (first-suits l [] (rest-suits m (l ∷ []) s)))

literal-lawful : (ls : List Lexeme) (v : Literal) → AllSuit ls → IsLiteral ls v → is_lawful_literal v ≡ true
literal-lawful _ _ s (items.num {xs} {n} l p) = num-lawful (l ∷ xs) n s p
literal-lawful _ _ s (items.text {t} l is) = text-lawful l t is (first-suits l [] s)
literal-lawful _ _ s (items.name {n} l is) = name-lawful l n is (first-suits l [] s)

kind-lawful : (ls : List Lexeme) (k : KindRef) → AllSuit ls → IsKind ls k → is_lawful_kind k ≡ true
kind-lawful _ _ s (items.num l is) = refl
kind-lawful _ _ s (items.word l is) = refl
kind-lawful _ _ s (items.name {n} l is) = name-lawful l n is (first-suits l [] s)

header-lawful : (ls : List Lexeme) (h : Option (List ℕ)) → AllSuit ls → IsHeader ls h → is_absent_or is_lawful_text h ≡ true
header-lawful _ _ s items.none = refl
header-lawful _ _ s (items.from {t} w l a is) = text-lawful l t is (first-suits l [] (rest-suits w (l ∷ []) s))

default-lawful : (ls : List Lexeme) (d : Option Literal) → AllSuit ls → IsDefault ls d → is_absent_or is_lawful_literal d ≡ true
default-lawful _ _ s items.none = refl
default-lawful _ _ s (items.given {xs} {v} w a p) = literal-lawful xs v (rest-suits w xs s) p

field-lawful : (ls : List Lexeme) (d : FieldDecl) → AllSuit ls → IsField ls d → is_lawful_field d ≡ true
field-lawful _ _ s (items.declared {n} {hs} {ks} {ds} {header = h} {k} {default = d} w l colon end a b hp c kp dp z) =
    let s1 = rest-suits w (l ∷ (hs ++ colon ∷ (ks ++ (ds ++ end ∷ [])))) s in
    let named = name-lawful l n b (first-suits l (hs ++ colon ∷ (ks ++ (ds ++ end ∷ []))) s1) in
    let t = apart hs (colon ∷ (ks ++ (ds ++ end ∷ []))) (rest-suits l (hs ++ colon ∷ (ks ++ (ds ++ end ∷ []))) s1) in
    let u = apart ks (ds ++ end ∷ []) (rest-suits colon (ks ++ (ds ++ end ∷ [])) t.1) in
    let v = apart ds (end ∷ []) u.1 in
    join (is_name n.text && is_absent_or is_lawful_text h && is_lawful_kind k) (is_absent_or is_lawful_literal d)
    (join (is_name n.text && is_absent_or is_lawful_text h) (is_lawful_kind k)
    (join (is_name n.text) (is_absent_or is_lawful_text h) named (header-lawful hs h t.0 hp)) (kind-lawful ks k u.0 kp)) (default-lawful ds d v.0 dp)

range-lawful : (ls : List Lexeme) (r : ℤ × ℤ) → AllSuit ls → IsRange ls r → (is_number r.0 ≡ true) × (is_number r.1 ≡ true)
range-lawful _ _ s (items.range {lo} {hi} {xs} {ys} begin dots end a p b q c) =
    let t = apart xs (dots ∷ (ys ++ end ∷ [])) (rest-suits begin (xs ++ dots ∷ (ys ++ end ∷ [])) s) in
    let u = apart ys (end ∷ []) (rest-suits dots (ys ++ end ∷ []) t.1) in
    (num-lawful xs lo t.0 p, num-lawful ys hi u.0 q)

part-lawful : (ls : List Lexeme) (p : Part) → AllSuit ls → IsPart ls p → is_lawful_part p ≡ true
part-lawful _ _ s (items.part {xs} {ys} {k} {v} equals p a q) =
    let t = apart xs (equals ∷ ys) s in
    join (is_lawful_kind k) (is_lawful_literal v) (kind-lawful xs k t.0 p) (literal-lawful ys v (rest-suits equals ys t.1) q)

param-lawful : (ls : List Lexeme) (p : Param) → AllSuit ls → IsParam ls p → is_lawful_param p ≡ true
param-lawful _ _ s (items.param {n} {xs} {k} l colon a b p) =
    join (is_name n.text) (is_lawful_kind k) (name-lawful l n a (first-suits l (colon ∷ xs) s)) (kind-lawful xs k (rest-suits colon xs (rest-suits l (colon ∷ xs) s)) p)

enum-lawful : (ls : List Lexeme) (d : EnumDecl) → AllSuit ls → IsEnum most ls d → is_lawful_enum d ≡ true
enum-lawful _ _ s (items.declared {n} {xs} {labels} w l begin end a b c p z) =
    let tail : List Lexeme = xs ++ end ∷ [] in
    let s1 = rest-suits w (l ∷ begin ∷ tail) s in
    let named = name-lawful l n b (first-suits l (begin ∷ tail) s1) in
    let t = apart xs (end ∷ []) (rest-suits begin tail (rest-suits l (begin ∷ tail) s1)) in
    let g = separated-lawful IsOneName is_lawful_name one-name max_labels xs labels t.0 p in
    join (is_name n.text && is_between 1 max_labels (length labels)) (list_all is_lawful_name labels) (join (is_name n.text) (is_between 1 max_labels (length labels)) named g.between) g.lawful

group-lawful : (ls : List Lexeme) (g : List NameRecord) → AllSuit ls → IsGroup most ls g → (length g ≤ max_group_fields) × (list_all is_lawful_name g ≡ true)
group-lawful _ _ s items.none = (omega arith, refl)
group-lawful _ _ s (items.group {xs} {names} w end a p z) =
    let t = apart xs (end ∷ []) (rest-suits w (xs ++ end ∷ []) s) in
    let g = separated-lawful IsOneName is_lawful_name one-name max_group_fields xs names t.0 p in
    let few = (both (nat_le 1 (length names)) (nat_le (length names) max_group_fields) g.between).1 in
    (grind (arith, nat_tests), g.lawful)

cell-lawful : (ls : List Lexeme) (c : CellDecl) → AllSuit ls → IsCell most ls c → is_lawful_cell c ≡ true
cell-lawful _ _ s (items.int {xs} {ys} {zs} {r} {first} w equals a p b q m) =
    let t = apart xs (equals ∷ (ys ++ zs)) (rest-suits w (xs ++ equals ∷ (ys ++ zs)) s) in
    let u = apart ys zs (rest-suits equals (ys ++ zs) t.1) in
    let g = range-lawful xs r t.0 p in
    join (is_number r.0 && is_number r.1) (is_number first) (join (is_number r.0) (is_number r.1) g.0 g.1) (num-lawful ys first u.0 q)
cell-lawful _ _ s (items.nums {xs} {ys} {r} w a p m) =
    let t = apart xs ys (rest-suits w (xs ++ ys) s) in
    let g = range-lawful xs r t.0 p in
    join (is_number r.0) (is_number r.1) g.0 g.1
cell-lawful _ _ s (items.words w a) = refl
cell-lawful _ _ s (items.hold {xs} {parts} w begin end a b p z) =
    let t = apart xs (end ∷ []) (rest-suits begin (xs ++ end ∷ []) (rest-suits w (begin ∷ (xs ++ end ∷ [])) s)) in
    let g = separated-lawful IsPart is_lawful_part part-lawful max_parts xs parts t.0 p in
    join (is_between 1 max_parts (length parts)) (list_all is_lawful_part parts) g.between g.lawful
cell-lawful _ _ s (items.label {of} {first} l equals m a b c) =
    join (is_name of.text) (is_name first.text) (name-lawful l of a (first-suits l (equals ∷ m ∷ []) s)) (name-lawful m first c (first-suits m [] (rest-suits equals (m ∷ []) (rest-suits l (equals ∷ m ∷ []) s))))

state-lawful : (ls : List Lexeme) (d : StateDecl) → AllSuit ls → IsState most ls d → is_lawful_state d ≡ true
state-lawful _ _ s (items.declared {n} {xs} {c} w l colon end a b d p z) =
    let tail : List Lexeme = xs ++ end ∷ [] in
    let s1 = rest-suits w (l ∷ colon ∷ tail) s in
    let named = name-lawful l n b (first-suits l (colon ∷ tail) s1) in
    let t = apart xs (end ∷ []) (rest-suits colon tail (rest-suits l (colon ∷ tail) s1)) in
    join (is_name n.text) (is_lawful_cell c) named (cell-lawful xs c t.0 p)

test-lawful : (ls : List Lexeme) (d : TestTree) → AllSuit ls → IsTest most ls d → is_lawful_test d ≡ true
test-lawful _ _ s (items.declared {n} {xs} {ys} {params = ps} {body} w l begin close equals end a b c p d e q z) =
    let after : List Lexeme = ys ++ end ∷ [] in
    let tail : List Lexeme = xs ++ close ∷ equals ∷ after in
    let s1 = rest-suits w (l ∷ begin ∷ tail) s in
    let named = name-lawful l n b (first-suits l (begin ∷ tail) s1) in
    let t = apart xs (close ∷ equals ∷ after) (rest-suits begin tail (rest-suits l (begin ∷ tail) s1)) in
    let u = apart ys (end ∷ []) (rest-suits equals after (rest-suits close (equals ∷ after) t.1)) in
    let g = separated-lawful IsParam is_lawful_param param-lawful max_parameters xs ps t.0 p in
    let x = expr-lawful max_depth ys body u.0 q in
    let deep : nat_le (expr_depth body) max_depth ≡ true = grind (arith, nat_tests, x.fits) in
    join (is_name n.text && is_between 1 max_parameters (length ps) && list_all is_lawful_param ps && is_lawful_expr body) (nat_le (expr_depth body) max_depth)
    (join (is_name n.text && is_between 1 max_parameters (length ps) && list_all is_lawful_param ps) (is_lawful_expr body)
    (join (is_name n.text && is_between 1 max_parameters (length ps)) (list_all is_lawful_param ps)
    (join (is_name n.text) (is_between 1 max_parameters (length ps)) named g.between) g.lawful) x.lawful) deep

column-lawful : (ls : List Lexeme) (d : ColumnTree) → AllSuit ls → IsColumn most ls d → is_lawful_column d ≡ true
column-lawful _ _ s (items.column {n} {xs} {value} l equals end a b p z) =
    let tail : List Lexeme = xs ++ end ∷ [] in
    let named = name-lawful l n a (first-suits l (equals ∷ tail) s) in
    let t = apart xs (end ∷ []) (rest-suits equals tail (rest-suits l (equals ∷ tail) s)) in
    let x = expr-lawful max_depth xs value t.0 p in
    let deep : nat_le (expr_depth value) max_depth ≡ true = grind (arith, nat_tests, x.fits) in
    join (is_name n.text && is_lawful_expr value) (nat_le (expr_depth value) max_depth) (join (is_name n.text) (is_lawful_expr value) named x.lawful) deep

-- ---- scripts

pub script-lawful : (ls : List Lexeme) (s : ScriptTree) → AllSuit ls → IsScript most ls s → IsLawful s
script-lawful _ _ s (scripts.script {es} {fs} {gs} {ss} {ts} {us} {rs} {enums} {fields} {group} {states} {tests} {update} {columns} p q r u v w (scripts.report {xs} wr begin end a b x z)) =
    let t1 = apart es (fs ++ (gs ++ (ss ++ (ts ++ (us ++ rs))))) s in
    let t2 = apart fs (gs ++ (ss ++ (ts ++ (us ++ rs)))) t1.1 in
    let t3 = apart gs (ss ++ (ts ++ (us ++ rs))) t2.1 in
    let t4 = apart ss (ts ++ (us ++ rs)) t3.1 in
    let t5 = apart ts (us ++ rs) t4.1 in
    let t6 = apart us rs t5.1 in
    let t7 = apart xs (end ∷ []) (rest-suits begin (xs ++ end ∷ []) (rest-suits wr (begin ∷ (xs ++ end ∷ [])) t6.1)) in
    let ge = any-lawful (IsEnum most) is_lawful_enum enum-lawful (most limit.Enums) es enums t1.0 p in
    let gf = some-lawful IsField is_lawful_field field-lawful (most limit.Fields) fs fields t2.0 q in
    let gg = group-lawful gs group t3.0 r in
    let gc = some-lawful (IsState most) is_lawful_state state-lawful (most limit.Cells) ss states t4.0 u in
    let gt = any-lawful (IsTest most) is_lawful_test test-lawful (most limit.Tests) ts tests t5.0 v in
    let gu = update-lawful us update t6.0 w in
    let gr = some-lawful (IsColumn most) is_lawful_column column-lawful (most limit.Columns) xs columns t7.0 x in
    record {
      enum_count = ge.0;
      enums = ge.1;
      field_count = gf.between;
      fields = gf.lawful;
      group_count = gg.0;
      group = gg.1;
      cell_count = gc.between;
      cells = gc.lawful;
      test_count = gt.0;
      tests = gt.1;
      statement_count = update-few us update w;
      statements = gu.lawful;
      depth = gu.fits;
      column_count = gr.between;
      columns = gr.lawful;
    }
  where
    update-few : (ls : List Lexeme) (ss : StmtsTree) → IsUpdate most ls ss → stmts_count ss ≤ most limit.Statements
    update-few _ _ (scripts.update {xs} {ss} w is p few) = few
