-- A script is read where its tokens stand.
use Rattle.std.proofs.Common.{◌≡◌, ℕ, Bool, true, false, List, [], ◌++◌, Some, Ok, refl, ap, sym, ◌∙◌}
use Rattle.std.proofs.lemmas.List.{append-nil}
use Rattle.sym_base.specs.declared.tree.name.Name.{Name as NameRecord}
use Rattle.sym_base.specs.declared.tree.declaration.EnumDecl.{EnumDecl}
use Rattle.sym_base.specs.declared.tree.declaration.FieldDecl.{FieldDecl}
use Rattle.sym_base.specs.declared.tree.declaration.StateDecl.{StateDecl}
use Rattle.sym_base.specs.Trees.{TestTree, ColumnTree, ScriptTree, StmtsTree}
use Rattle.sym_base.specs.Sizes.{stmts_count}
use Rattle.sym_lex.specs.declared.keyword.Keyword.{Keyword}
use Rattle.sym_lex.specs.declared.keyword.Keyword.TheVariants as keyword
use Rattle.sym_parse.specs.declared.error.LimitKind.{LimitKind}
use Rattle.sym_parse.specs.Lexemes.{Lexeme}
use Rattle.sym_parse.specs.Steps.{Input, next, is_this_word, is_done, done, sees_word, sees_name}
use Rattle.sym_parse.specs.Syntax.Declarations as items
use Rattle.sym_parse.specs.Syntax.Declarations.{AreItems, AreAtMost, AreSome, IsEnum, IsField, IsGroup, IsState, IsTest, IsColumn}
use Rattle.sym_parse.specs.Syntax.Scripts as syntax
use Rattle.sym_parse.specs.Syntax.Scripts.{IsUpdate, IsReport, IsScript}
use Rattle.sym_parse.specs.Parsing.Scripts.{enums, fields, states, tests, columns, report, script, start}
use Rattle.sym_parse.proofs.Recognizing.{Statements}
use Rattle.sym_parse.proofs.Reading.{at, Reads, Complete, Finds, word-is, name-is, finds-front, pure-reads, then-reads, last-reads, word-then, sign-then, any-reads, some-reads}
use Rattle.sym_parse.proofs.StatementsComplete.{update-reads}
use Rattle.sym_parse.proofs.DeclarationsComplete.{enum-reads, field-reads, group-reads, state-reads, test-reads, column-reads}

-- The lexemes begin with this keyword, and so with no other.
record Starts (k : Keyword) (ls : List Lexeme) : Type 0 where
  word : (rest : List Lexeme) (other : Keyword) (b : Bool) → is_this_word other (Some k) ≡ b → Finds (sees_word other) (ls ++ rest) b

more-start : {k : Keyword} (xs ys : List Lexeme) → Starts k xs → Starts k (xs ++ ys)
more-start xs ys f = record { word = λ rest other b e. finds-front xs ys rest (f.word (ys ++ rest) other b e) }

module _ {A : Type 0} {k : Keyword} {P : List Lexeme → A → Type 0} (each : (ls : List Lexeme) (x : A) → P ls x → Starts k ls) where
  some-start : {most : ℕ} (ls : List Lexeme) (xs : List A) → AreSome most P ls xs → Starts k ls
  some-start _ _ (items.some {xs} {ys} {a} p q few) = more-start xs ys (each xs a p)

  -- Items, before what begins with another keyword.
  items-find : (other : Keyword) (b : Bool) (ls rest : List Lexeme) (xs : List A) → AreItems P ls xs → is_this_word other (Some k) ≡ b → Finds (sees_word other) rest b → Finds (sees_word other) (ls ++ rest) b
  items-find other b _ rest _ items.none e f = f
  items-find other b _ rest _ (items.more {xs} {ys} {a} p q) e f = (more-start xs ys (each xs a p)).word rest other b e

  any-finds : {most : ℕ} (other : Keyword) (b : Bool) (ls rest : List Lexeme) (xs : List A) → AreAtMost most P ls xs → is_this_word other (Some k) ≡ b → Finds (sees_word other) rest b → Finds (sees_word other) (ls ++ rest) b
  any-finds other b ls rest xs (items.any p few) e f = items-find other b ls rest xs p e f

  own-word : is_this_word k (Some k) ≡ true → (ls rest : List Lexeme) (x : A) → P ls x → Finds (sees_word k) (ls ++ rest) true
  own-word e ls rest x p = (each ls x p).word rest k true e

field-start : (ls : List Lexeme) (d : FieldDecl) → IsField ls d → Starts keyword.Field ls
field-start _ _ (items.declared w l colon end a b hp c kp dp z) = record { word = λ rest other b e. word-is a _ e }

done-reads : {k : ℕ} → Reads Statements done [] [] k k tt
unfolding done is_done next
done-reads = record { reads = λ other. refl }

module _ (most : LimitKind → ℕ) where
  enum-start : (ls : List Lexeme) (d : EnumDecl) → IsEnum most ls d → Starts keyword.Enum ls
  enum-start _ _ (items.declared w l begin end a b c p z) = record { word = λ rest other b e. word-is a _ e }

  group-finds : (other : Keyword) (s : Bool) (ls rest : List Lexeme) (g : List NameRecord) → IsGroup most ls g → is_this_word other (Some keyword.Group) ≡ s → Finds (sees_word other) rest s → Finds (sees_word other) (ls ++ rest) s
  group-finds other s _ rest _ items.none e f = f
  group-finds other s _ rest _ (items.group w end a p z) e f = word-is a _ e

  state-start : (ls : List Lexeme) (d : StateDecl) → IsState most ls d → Starts keyword.State ls
  state-start _ _ (items.declared w l colon end a b c p z) = record { word = λ rest other b e. word-is a _ e }

  test-start : (ls : List Lexeme) (d : TestTree) → IsTest most ls d → Starts keyword.Test ls
  test-start _ _ (items.declared w l begin close equals end a b c p d q r z) = record { word = λ rest other b e. word-is a _ e }

  update-start : (ls : List Lexeme) (ss : StmtsTree) → IsUpdate most ls ss → Starts keyword.Update ls
  update-start _ _ (syntax.update w is p few) = record { word = λ rest other b e. word-is is _ e }

  column-finds : (ls rest : List Lexeme) (d : ColumnTree) → IsColumn most ls d → Finds sees_name (ls ++ rest) true
  column-finds _ rest _ (items.column l equals end a b p z) = name-is a.text refl

  report-reads : Complete (report most) (IsReport most)
  unfolding report columns
  report-reads _ rest k _ (syntax.report w begin end a b p z) = word-then a (sign-then b (then-reads _ (some-reads _ _ (column-reads most) column-finds _ _ k _ p (name-is z refl)) (sign-then z pure-reads)))

  whole-reads : (ls : List Lexeme) (s : ScriptTree) → IsScript most ls s → Reads Statements (script most) ls [] 0 (stmts_count s.update) s
  unfolding script enums fields states tests
  whole-reads _ _ (syntax.script {es} {fs} {gs} {ss} {ts} {us} {rs} {enums = a} {fields = b} {group = c} {states = d} {tests = e} {update = f} {columns = g} p q r u v w x) =
      let field-first = more-start fs (gs ++ (ss ++ (ts ++ (us ++ rs)))) (some-start field-start fs b q) in
      let state-first = more-start ss (ts ++ (us ++ rs)) (some-start state-start ss d u) in
      let update-first = more-start us rs (update-start us f w) in
      then-reads _ (any-reads _ _ (enum-reads most) (own-word enum-start refl) _ _ 0 a p (field-first.word [] keyword.Enum false refl))
      (then-reads _ (some-reads _ _ field-reads (own-word field-start refl) _ _ 0 b q (finds-front gs (ss ++ (ts ++ (us ++ rs))) [] (group-finds keyword.Field false gs _ c r refl (state-first.word [] keyword.Field false refl))))
      (then-reads _ (group-reads most _ _ 0 c r (state-first.word [] keyword.Group false refl))
      (then-reads _ (some-reads _ _ (state-reads most) (own-word state-start refl) _ _ 0 d u (finds-front ts (us ++ rs) [] (any-finds test-start keyword.State false ts _ e v refl (update-first.word [] keyword.State false refl))))
      (then-reads _ (any-reads _ _ (test-reads most) (own-word test-start refl) _ _ 0 e v (update-first.word [] keyword.Test false refl))
      (then-reads _ (update-reads most _ _ 0 f w) (last-reads _ (report-reads rs [] (stmts_count f) g x) (last-reads _ done-reads pure-reads)))))))

  pub script-reads : (ls : List Lexeme) (s : ScriptTree) → IsScript most ls s → (j : Input) × (script most (start ls) ≡ Ok (s, j))
  script-reads ls s p = (at [] (stmts_count s.update) 0, ap (λ (m : List Lexeme). script most (start m)) (sym (append-nil ls)) ∙ (whole-reads ls s p).reads 0)
