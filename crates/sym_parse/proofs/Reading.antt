-- What a parser reads of the lexemes of a line, token by token and step by step.
use Rattle.std.proofs.Common.{◌≡◌, ℕ, zero, suc, ◌+◌, ◌-◌, ◌<◌, ◌≤◌, ℤ, Bool, true, false, List, [], ◌∷◌, ◌++◌, length, Some, Ok, refl, ap, sym, ◌∙◌, subst, arith, append_assoc, nat_lt}
use Rattle.std.proofs.lemmas.Bool.Decides.{nat_tests}
use Rattle.std.proofs.lemmas.List.{append-nil}
use denote.Enum.Bare.{true_same}
use Rattle.sym_base.specs.declared.tree.name.Name.{Name as NameRecord}
use Rattle.sym_lex.specs.declared.keyword.Keyword.{Keyword}
use Rattle.sym_lex.specs.declared.symbol.Symbol.{Symbol}
use Rattle.sym_lex.specs.declared.symbol.Symbol.TheVariants as symbol
use Rattle.sym_lex.specs.contracts.keyword.Keyword as keywords
use Rattle.sym_lex.specs.contracts.symbol.Symbol as symbols
use Rattle.sym_parse.specs.declared.error.LimitKind.{LimitKind}
use Rattle.sym_parse.specs.Lexemes.{Terminal, Lexeme, IsKeyword, IsSign, IsNumeral, IsText, IsName}
use Rattle.sym_parse.specs.Steps.{Input, Parser, ◌>>=◌, ◌>>◌, pure, choose, here, bump, next, next_of, word_of, sign_of, name_of, number_of, text_of, is_this_word, is_this_sign, is_there, sees_word, sees_sign, sees_name, sees_number, sees_text, word, sign, name, number, text, opening, one_operand, one_statement, repeated, separated, place, passed, named, taken}
use Rattle.sym_parse.specs.Syntax.Declarations as syntax
use Rattle.sym_parse.specs.Syntax.Declarations.{AreItems, AreFurther, AreAtMost, AreSome, AreSeparated}
use Rattle.sym_parse.proofs.Recognizing.{Counting, Operands, Statements, Nothing}

-- ---- what is said

-- An input before these lexemes, with these counts.
abbrev pub at : List Lexeme → ℕ → ℕ → Input
at ls st op = record { rest = ls; statements = st; operands = op }

abbrev pub statements_in : Counting → ℕ → ℕ → ℕ
statements_in Operands k other = other
statements_in Statements k other = k
statements_in Nothing k other = k

abbrev pub operands_in : Counting → ℕ → ℕ → ℕ
operands_in Operands k other = k
operands_in Statements k other = 0
operands_in Nothing k other = 0

-- An input before these lexemes, with so many counted of a line's kind and of the other kind.
abbrev pub before : Counting → List Lexeme → ℕ → ℕ → Input
before w ls k other = at ls (statements_in w k other) (operands_in w k other)

-- Of these lexemes a parser reads this, before such others, and counts from the first number to the
-- second.
pub record Reads {A : Type 0} (w : Counting) (p : Parser A) (ls rest : List Lexeme) (k n : ℕ) (x : A) : Type 0 where
  pub reads : (other : ℕ) → p (before w (ls ++ rest) k other) ≡ Ok (x, before w rest n other)

-- A parser reads what a line is, whatever follows. Nothing is counted.
abbrev pub Complete : {A : Type 0} → Parser A → (List Lexeme → A → Type 0) → Type 0
Complete {A} p P = (ls rest : List Lexeme) (k : ℕ) (x : A) → P ls x → Reads Statements p ls rest k k x

-- What a question about the next token finds before some lexemes.
pub record Finds {B : Type 0} (view : Input → B) (ls : List Lexeme) (b : B) : Type 0 where
  pub finds : (st op : ℕ) → view (at ls st op) ≡ b

-- ---- the next token

module _ {l : Lexeme} {ls : List Lexeme} {t : Terminal} (e : l.terminal ≡ t) {b : Bool} where
  pub word-is : (k : Keyword) → is_this_word k (word_of (Some t)) ≡ b → Finds (sees_word k) (l ∷ ls) b
  unfolding sees_word next
  word-is k f = record { finds = λ st op. ap (λ m. is_this_word k (word_of (Some m))) e ∙ f }

  pub sign-is : (s : Symbol) → is_this_sign s (sign_of (Some t)) ≡ b → Finds (sees_sign s) (l ∷ ls) b
  unfolding sees_sign next
  sign-is s f = record { finds = λ st op. ap (λ m. is_this_sign s (sign_of (Some m))) e ∙ f }

  pub name-is : is_there (name_of (Some t)) ≡ b → Finds sees_name (l ∷ ls) b
  unfolding sees_name next
  name-is f = record { finds = λ st op. ap (λ m. is_there (name_of (Some m))) e ∙ f }

  pub number-is : is_there (number_of (Some t)) ≡ b → Finds sees_number (l ∷ ls) b
  unfolding sees_number next
  number-is f = record { finds = λ st op. ap (λ m. is_there (number_of (Some m))) e ∙ f }

  pub text-is : is_there (text_of (Some t)) ≡ b → Finds sees_text (l ∷ ls) b
  unfolding sees_text next
  text-is f = record { finds = λ st op. ap (λ m. is_there (text_of (Some m))) e ∙ f }

pub word-found : (k : Keyword) (ls : List Lexeme) {b : Bool} → is_this_word k (word_of (next_of ls)) ≡ b → Finds (sees_word k) ls b
unfolding sees_word next
word-found k ls e = record { finds = λ st op. e }

pub sign-found : (s : Symbol) (ls : List Lexeme) {b : Bool} → is_this_sign s (sign_of (next_of ls)) ≡ b → Finds (sees_sign s) ls b
unfolding sees_sign next
sign-found s ls e = record { finds = λ st op. e }

pub finds-front : {B : Type 0} {view : Input → B} {b : B} (xs ys rest : List Lexeme) → Finds view (xs ++ (ys ++ rest)) b → Finds view ((xs ++ ys) ++ rest) b
finds-front {B} {view} {b} xs ys rest f = subst (λ (m : List Lexeme). Finds view m b) (sym (append_assoc xs ys rest)) f

-- ---- one token

module _ (l : Lexeme) (ls : List Lexeme) (st op : ℕ) where
  pub word-goes : (k : Keyword) → IsKeyword k l → word k (at (l ∷ ls) st op) ≡ Ok (tt, at ls st op)
  unfolding word passed
  word-goes k e = rw ((word-is {l = l} {ls = ls} e k (true_same keywords.the_type k k refl)).finds st op) refl

  pub sign-goes : (s : Symbol) → IsSign s l → sign s (at (l ∷ ls) st op) ≡ Ok (tt, at ls st op)
  unfolding sign passed
  sign-goes s e = rw ((sign-is {l = l} {ls = ls} e s (true_same symbols.the_type s s refl)).finds st op) refl

  pub name-goes : (n : NameRecord) → IsName n l → name (at (l ∷ ls) st op) ≡ Ok (n, at ls st op)
  unfolding name next place passed
  name-goes n e = ap (λ m. named l.at (name_of (Some m)) (at (l ∷ ls) st op)) e.text ∙ ap (λ (m : ℕ). Ok (record { text = n.text; at = m }, at ls st op)) e.place

  number-goes : (n : ℤ) → IsNumeral n l → number (at (l ∷ ls) st op) ≡ Ok (n, at ls st op)
  unfolding number next passed
  number-goes n e = ap (λ m. taken (number_of (Some m)) (at (l ∷ ls) st op)) e

  text-goes : (t : List ℕ) → IsText t l → text (at (l ∷ ls) st op) ≡ Ok (t, at ls st op)
  unfolding text next passed
  text-goes t e = ap (λ m. taken (text_of (Some m)) (at (l ∷ ls) st op)) e

  opening-goes : (room : ℕ) → 0 < room → opening room (at (l ∷ ls) st op) ≡ Ok (tt, at ls st op)
  unfolding opening passed
  opening-goes zero h = absurd (omega (arith, h))
  opening-goes (suc room) h = refl

-- ---- steps

module _ {w : Counting} where
  pub pure-reads : {A : Type 0} {rest : List Lexeme} {k : ℕ} {x : A} → Reads w (pure x) [] rest k k x
  pure-reads = record { reads = λ other. refl }

  pub then-reads : {A B : Type 0} {p : Parser A} (f : A → Parser B) {xs ys rest : List Lexeme} {k m n : ℕ} {x : A} {y : B} →
      Reads w p xs (ys ++ rest) k m x → Reads w (f x) ys rest m n y → Reads w (p >>= f) (xs ++ ys) rest k n y
  then-reads {A} {B} {p} f {xs} {ys} {rest} {k} {m} {n} {x} {y} first second = record { reads = λ other. rw (append_assoc xs ys rest, first.reads other) (second.reads other) }

  -- What comes last takes no lexeme.
  pub last-reads : {A B : Type 0} {p : Parser A} (f : A → Parser B) {xs rest : List Lexeme} {k m n : ℕ} {x : A} {y : B} →
      Reads w p xs rest k m x → Reads w (f x) [] rest m n y → Reads w (p >>= f) xs rest k n y
  last-reads {A} {B} {p} f {xs} {rest} {k} {m} {n} {x} {y} first second = record { reads = λ other. rw (first.reads other) (second.reads other) }

  pub yes-reads : {A : Type 0} {test : Input → Bool} {p : Parser A} (q : Parser A) {ls rest : List Lexeme} {k n : ℕ} {x : A} →
      Finds test (ls ++ rest) true → Reads w p ls rest k n x → Reads w (choose test p q) ls rest k n x
  yes-reads {A} {test} {p} q {ls} {rest} {k} {n} {x} f r = record { reads = λ other. rw (f.finds (statements_in w k other) (operands_in w k other)) (r.reads other) }

  pub no-reads : {A : Type 0} {test : Input → Bool} (p : Parser A) {q : Parser A} {ls rest : List Lexeme} {k n : ℕ} {x : A} →
      Finds test (ls ++ rest) false → Reads w q ls rest k n x → Reads w (choose test p q) ls rest k n x
  no-reads {A} {test} p {q} {ls} {rest} {k} {n} {x} f r = record { reads = λ other. rw (f.finds (statements_in w k other) (operands_in w k other)) (r.reads other) }

  -- By the answer to a question.
  pub view-reads : {A B : Type 0} (view : Input → B) (f : B → Parser A) {ls rest : List Lexeme} {k n : ℕ} {x : A} {b : B} →
      Finds view (ls ++ rest) b → Reads w (f b) ls rest k n x → Reads w (λ i. f (view i) i) ls rest k n x
  view-reads view f {ls} {rest} {k} {n} {x} {b} e r = record {
    reads = λ other. let i : Input = before w (ls ++ rest) k other in ap (λ c. f c i) (e.finds _ _) ∙ r.reads other;
  }

  -- By as many turns as there are tokens, and one.
  pub turns-reads : {A : Type 0} (f : ℕ → Parser A) {ls rest : List Lexeme} {k n : ℕ} {x : A} → Reads w (f (suc (length (ls ++ rest)))) ls rest k n x → Reads w (λ i. f (suc (length i.rest)) i) ls rest k n x
  turns-reads f {ls} {rest} {k} {n} {x} r = record { reads = λ other. r.reads other }

  -- The same, said otherwise.
  module _ {A : Type 0} {p : Parser A} {rest : List Lexeme} where
    pub of-lexemes : {ls ms : List Lexeme} {k n : ℕ} {x : A} → ls ≡ ms → Reads w p ms rest k n x → Reads w p ls rest k n x
    of-lexemes {ls} {ms} {k} {n} {x} e r = subst (λ (m : List Lexeme). Reads w p m rest k n x) (sym e) r

    pub from-count : {ls : List Lexeme} {j k n : ℕ} {x : A} → Reads w p ls rest j n x → j ≡ k → Reads w p ls rest k n x
    from-count {ls} {j} {k} {n} {x} r e = subst (λ (m : ℕ). Reads w p ls rest m n x) e r

    pub to-count : {ls : List Lexeme} {k m n : ℕ} {x : A} → Reads w p ls rest k m x → m ≡ n → Reads w p ls rest k n x
    to-count {ls} {k} {m} {n} {x} r e = subst (λ (c : ℕ). Reads w p ls rest k c x) e r

    pub as-value : {ls : List Lexeme} {k n : ℕ} {x y : A} → Reads w p ls rest k n x → x ≡ y → Reads w p ls rest k n y
    as-value {ls} {k} {n} {x} {y} r e = subst (λ (v : A). Reads w p ls rest k n v) e r

  pub name-reads : {l : Lexeme} {x : NameRecord} {rest : List Lexeme} {k : ℕ} → IsName x l → Reads w name (l ∷ []) rest k k x
  name-reads {l} {x} {rest} is = record { reads = λ other. name-goes l rest _ _ x is }

  pub number-reads : {l : Lexeme} {x : ℤ} {rest : List Lexeme} {k : ℕ} → IsNumeral x l → Reads w number (l ∷ []) rest k k x
  number-reads {l} {x} {rest} is = record { reads = λ other. number-goes l rest _ _ x is }

  -- ---- a token, and what follows it

  module _ {A B : Type 0} (p : Parser A) (f : A → Parser B) {l : Lexeme} {x : A} {ls rest : List Lexeme} {k n : ℕ} {y : B} where
    token-then : ((ms : List Lexeme) (st op : ℕ) → p (at (l ∷ ms) st op) ≡ Ok (x, at ms st op)) → Reads w (f x) ls rest k n y → Reads w (p >>= f) (l ∷ ls) rest k n y
    token-then e r = record { reads = λ other. rw (e (ls ++ rest) _ _) (r.reads other) }

  module _ {B : Type 0} {l : Lexeme} {ls rest : List Lexeme} {k n : ℕ} {y : B} where
    pub word-then : {u : Keyword} {q : Parser B} → IsKeyword u l → Reads w q ls rest k n y → Reads w (word u >> q) (l ∷ ls) rest k n y
    word-then {u} {q} is r = token-then (word u) (λ v. q) (λ ms st op. word-goes l ms st op u is) r

    pub sign-then : {s : Symbol} {q : Parser B} → IsSign s l → Reads w q ls rest k n y → Reads w (sign s >> q) (l ∷ ls) rest k n y
    sign-then {s} {q} is r = token-then (sign s) (λ v. q) (λ ms st op. sign-goes l ms st op s is) r

    pub name-then : {x : NameRecord} (f : NameRecord → Parser B) → IsName x l → Reads w (f x) ls rest k n y → Reads w (name >>= f) (l ∷ ls) rest k n y
    name-then {x} f is r = token-then name f (λ ms st op. name-goes l ms st op x is) r

    pub number-then : {x : ℤ} (f : ℤ → Parser B) → IsNumeral x l → Reads w (f x) ls rest k n y → Reads w (number >>= f) (l ∷ ls) rest k n y
    number-then {x} f is r = token-then number f (λ ms st op. number-goes l ms st op x is) r

    pub text-then : {x : List ℕ} (f : List ℕ → Parser B) → IsText x l → Reads w (f x) ls rest k n y → Reads w (text >>= f) (l ∷ ls) rest k n y
    text-then {x} f is r = token-then text f (λ ms st op. text-goes l ms st op x is) r

    pub bump-then : {q : Parser B} → Reads w q ls rest k n y → Reads w (bump >> q) (l ∷ ls) rest k n y
    unfolding passed
    bump-then {q} r = token-then bump (λ v. q) (λ ms st op. refl) r

    pub opening-then : {room : ℕ} {q : Parser B} → 0 < room → Reads w q ls rest k n y → Reads w (opening room >> q) (l ∷ ls) rest k n y
    opening-then {room} {q} some r = token-then (opening room) (λ v. q) (λ ms st op. opening-goes l ms st op room some) r

    -- The place of the next token.
    pub here-then : (f : ℕ → Parser B) → Reads w (f l.at) (l ∷ ls) rest k n y → Reads w (here >>= f) (l ∷ ls) rest k n y
    unfolding place
    here-then f r = record { reads = λ other. r.reads other }

module _ {B : Type 0} {most : ℕ} {q : Parser B} {ls rest : List Lexeme} {k n : ℕ} {y : B} where
  -- One more is counted.
  pub operand-then : k < most → Reads Operands q ls rest (k + 1) n y → Reads Operands (one_operand most >> q) ls rest k n y
  unfolding one_operand
  operand-then few r = record { reads = λ other. let free : nat_lt k most ≡ true = grind (arith, nat_tests) in rw free (r.reads other) }

  pub statement-then : k < most → Reads Statements q ls rest (k + 1) n y → Reads Statements (one_statement most >> q) ls rest k n y
  unfolding one_statement
  statement-then few r = record { reads = λ other. let free : nat_lt k most ≡ true = grind (arith, nat_tests) in rw free (r.reads other) }

-- ---- lists

module _ {A : Type 0} (which : LimitKind) (begins : Input → Bool) {item : Parser A} {P : List Lexeme → A → Type 0} (each : Complete item P) where
  further-reads : (free : ℕ) (found : List A) (ls rest : List Lexeme) (k : ℕ) (items : List A) → AreFurther P ls items → Finds (sees_sign symbol.Comma) rest false → length items ≤ free →
      Reads Statements (separated which begins item free found) ls rest k k (found ++ items)
  unfolding separated
  further-reads zero found _ rest k _ syntax.none e few = as-value (no-reads _ e pure-reads) (sym (append-nil found))
  further-reads (suc free) found _ rest k _ syntax.none e few = as-value (no-reads _ e pure-reads) (sym (append-nil found))
  further-reads zero found _ rest k _ (syntax.more comma is p q) e few = absurd (omega (arith, few))
  further-reads (suc free) found _ rest k _ (syntax.more {xs} {ys} {a = x} {rest = items} comma is p q) e few =
      as-value (yes-reads _ (sign-is is symbol.Comma refl) (bump-then (then-reads _ (each xs (ys ++ rest) k x p) (further-reads free (found ++ x ∷ []) ys rest k items q e (omega (arith, few)))))) (append_assoc found (x ∷ []) items)

  -- item {"," item}
  pub separated-reads : {most : ℕ} (ls rest : List Lexeme) (k : ℕ) (items : List A) → AreSeparated most P ls items → Finds (sees_sign symbol.Comma) rest false →
      Reads Statements (item >>= (λ (x : A). separated which begins item (most - 1) (x ∷ []))) ls rest k k items
  separated-reads {most} _ rest k _ (syntax.some {xs} {ys} {a = x} {rest = items} p q few) e =
      then-reads _ (each xs (ys ++ rest) k x p) (further-reads (most - 1) (x ∷ []) ys rest k items q e (omega (arith, few)))

  module _ (first : (ls rest : List Lexeme) (x : A) → P ls x → Finds begins (ls ++ rest) true) where
    items-read : (free : ℕ) (found : List A) (ls rest : List Lexeme) (k : ℕ) (items : List A) → AreItems P ls items → Finds begins rest false → length items ≤ free →
        Reads Statements (repeated which begins item free found) ls rest k k (found ++ items)
    unfolding repeated
    items-read zero found _ rest k _ syntax.none e few = as-value (no-reads _ e pure-reads) (sym (append-nil found))
    items-read (suc free) found _ rest k _ syntax.none e few = as-value (no-reads _ e pure-reads) (sym (append-nil found))
    items-read zero found _ rest k _ (syntax.more p q) e few = absurd (omega (arith, few))
    items-read (suc free) found _ rest k _ (syntax.more {xs} {ys} {a = x} {rest = items} p q) e few =
        as-value (yes-reads _ (finds-front xs ys rest (first xs (ys ++ rest) x p)) (then-reads _ (each xs (ys ++ rest) k x p) (items-read free (found ++ x ∷ []) ys rest k items q e (omega (arith, few))))) (append_assoc found (x ∷ []) items)

    -- {item}
    pub any-reads : {most : ℕ} (ls rest : List Lexeme) (k : ℕ) (items : List A) → AreAtMost most P ls items → Finds begins rest false → Reads Statements (repeated which begins item most []) ls rest k k items
    any-reads {most} ls rest k items (syntax.any p few) e = items-read most [] ls rest k items p e few

    -- item {item}
    pub some-reads : {most : ℕ} (ls rest : List Lexeme) (k : ℕ) (items : List A) → AreSome most P ls items → Finds begins rest false →
        Reads Statements (item >>= (λ (x : A). repeated which begins item (most - 1) (x ∷ []))) ls rest k k items
    some-reads {most} _ rest k _ (syntax.some {xs} {ys} {a = x} {rest = items} p q few) e =
        then-reads _ (each xs (ys ++ rest) k x p) (items-read (most - 1) (x ∷ []) ys rest k items q e (omega (arith, few)))
