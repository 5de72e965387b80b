-- What a parser of one token says: the token that it took, or that it took none.
use Rattle.std.proofs.Common.{◌≡◌, ℕ, ℤ, Bool, true, false, if◌then◌else◌, List, [], ◌∷◌, Option, Some, None, Ok, Err, length, pos, refl, ap, rules}
use Rattle.std.proofs.lemmas.Option.{same_Some}
use denote.Enum.Bare.{same_true}
use Rattle.sym_base.specs.declared.tree.expression.BinOp.{BinOp}
use Rattle.sym_lex.specs.declared.keyword.Keyword.{Keyword}
use Rattle.sym_lex.specs.declared.symbol.Symbol.{Symbol}
use Rattle.sym_lex.specs.contracts.keyword.Keyword as keywords
use Rattle.sym_lex.specs.contracts.symbol.Symbol as symbols
use Rattle.sym_parse.specs.declared.stop.Stop.TheVariants as stop
use Rattle.sym_parse.specs.Lexemes.{Terminal, Name, Number, Str, Word, Sign, Lexeme, IsKeyword, IsSign, IsNumeral, IsText, IsName}
use Rattle.sym_parse.specs.Steps.{Input, Parsed, Parser, bump, next, next_of, after_first, place, place_of, passed, word_of, sign_of, name_of, number_of, text_of, is_this_word, is_this_sign, is_there, named, taken, sees_word, sees_sign, sees_name, sees_number, sees_text, word, sign, name, number, text}
use Rattle.sym_parse.specs.Parsing.Expressions.{op_in}

-- A token was taken, and nothing was counted.
pub record Step (Is : Lexeme → Type 0) (i j : Input) : Type 0 where
  pub lexeme : Lexeme
  pub splits : i.rest ≡ lexeme ∷ j.rest
  pub is : Is lexeme
  pub statements : j.statements ≡ i.statements
  pub operands : j.operands ≡ i.operands

abbrev pub Tells : {A : Type 0} → (A → Lexeme → Type 0) → Input → Parsed A → Type 0
Tells Is i (Ok read) = Step (Is read.0) i read.1
Tells Is i (Err (stop.Expected left)) = left ≡ length i.rest
Tells Is i (Err (stop.Limit left which)) = ⊥
Tells Is i (Err stop.NoMemory) = Unit {0}

-- A parser of one token, at inputs where a test of the next token has been passed; and such a token.
pub record Token {A : Type 0} (Seen : Input → Type 0) (p : Parser A) (Is : A → Lexeme → Type 0) : Type 0 where
  pub value : A
  pub lexeme : Lexeme
  pub is : Is value lexeme
  pub says : (i : Input) → Seen i → Tells Is i (p i)

-- The first of some lexemes.
record First (Is : Lexeme → Type 0) (ls : List Lexeme) : Type 0 where
  lexeme : Lexeme
  splits : ls ≡ lexeme ∷ after_first ls
  is : Is lexeme

is-word : (k : Keyword) (t : Terminal) → is_this_word k (word_of (Some t)) ≡ true → t ≡ Word k
is-word k (Name text) e = cc
is-word k (Number n) e = cc
is-word k (Str text) e = cc
is-word k (Word other) e = ap Word (same_true keywords.the_type (search rules) other k e)
is-word k (Sign s) e = cc

pub is-sign : (s : Symbol) (t : Terminal) → is_this_sign s (sign_of (Some t)) ≡ true → t ≡ Sign s
is-sign s (Name text) e = cc
is-sign s (Number n) e = cc
is-sign s (Str text) e = cc
is-sign s (Word k) e = cc
is-sign s (Sign other) e = ap Sign (same_true symbols.the_type (search rules) other s e)

first-word : (k : Keyword) (ls : List Lexeme) → is_this_word k (word_of (next_of ls)) ≡ true → First (IsKeyword k) ls
first-word k [] e = cc
first-word k (l ∷ rest) e = record { lexeme = l; splits = refl; is = is-word k l.terminal e }

first-sign : (s : Symbol) (ls : List Lexeme) → is_this_sign s (sign_of (next_of ls)) ≡ true → First (IsSign s) ls
first-sign s [] e = cc
first-sign s (l ∷ rest) e = record { lexeme = l; splits = refl; is = is-sign s l.terminal e }

step : (Is : Lexeme → Type 0) (i : Input) → First Is i.rest → Step Is i (passed i)
unfolding passed
step Is i f = record { lexeme = f.lexeme; splits = f.splits; is = f.is; statements = refl; operands = refl }

-- A name is taken with its text and its place.
is-name : (t : Terminal) (text : List ℕ) → name_of (Some t) ≡ Some text → t ≡ Name text
is-name (Name other) text e = ap Name (same_Some other text e)
is-name (Number n) text e = cc
is-name (Str other) text e = cc
is-name (Word k) text e = cc
is-name (Sign s) text e = cc

is-number : (t : Terminal) (n : ℤ) → number_of (Some t) ≡ Some n → t ≡ Number n
is-number (Name text) n e = cc
is-number (Number other) n e = ap Number (same_Some other n e)
is-number (Str text) n e = cc
is-number (Word k) n e = cc
is-number (Sign s) n e = cc

is-text : (t : Terminal) (text : List ℕ) → text_of (Some t) ≡ Some text → t ≡ Str text
is-text (Name other) text e = cc
is-text (Number n) text e = cc
is-text (Str other) text e = ap Str (same_Some other text e)
is-text (Word k) text e = cc
is-text (Sign s) text e = cc

first-number : (n : ℤ) (ls : List Lexeme) → number_of (next_of ls) ≡ Some n → First (IsNumeral n) ls
first-number n [] e = cc
first-number n (l ∷ rest) e = record { lexeme = l; splits = refl; is = is-number l.terminal n e }

first-text : (text : List ℕ) (ls : List Lexeme) → text_of (next_of ls) ≡ Some text → First (IsText text) ls
first-text text [] e = cc
first-text text (l ∷ rest) e = record { lexeme = l; splits = refl; is = is-text l.terminal text e }

first-name : (text : List ℕ) (i : Input) → name_of (next_of i.rest) ≡ Some text → First (IsName (record { text = text; at = place i })) i.rest
unfolding place
first-name text i e = in-list i.rest text e
  where
    in-list : (ls : List Lexeme) (t : List ℕ) → name_of (next_of ls) ≡ Some t → First (IsName (record { text = t; at = place_of ls })) ls
    in-list [] t f = cc
    in-list (l ∷ rest) t f = record { lexeme = l; splits = refl; is = record { text = is-name l.terminal t f; place = refl } }

if-tells : {A : Type 0} (Is : A → Lexeme → Type 0) (i : Input) (b : Bool) (o p : Parsed A) → (b ≡ true → Tells Is i o) → Tells Is i p → Tells Is i (if b then o else p)
if-tells Is i true o p f g = f refl
if-tells Is i false o p f g = g

named-tells : (i : Input) (o : Option (List ℕ)) → name_of (next_of i.rest) ≡ o → Tells IsName i (named (place i) o i)
named-tells i None e = refl
named-tells i (Some t) e = step (IsName (record { text = t; at = place i })) i (first-name t i e)

number-tells : (i : Input) (o : Option ℤ) → number_of (next_of i.rest) ≡ o → Tells IsNumeral i (taken o i)
number-tells i None e = refl
number-tells i (Some n) e = step (IsNumeral n) i (first-number n i.rest e)

text-tells : (i : Input) (o : Option (List ℕ)) → text_of (next_of i.rest) ≡ o → Tells IsText i (taken o i)
text-tells i None e = refl
text-tells i (Some t) e = step (IsText t) i (first-text t i.rest e)

-- ---- one token

-- The next token is one of these.
pub record Sees {A : Type 0} (Is : A → Lexeme → Type 0) (i : Input) : Type 0 where
  pub value : A
  pub step : Step (Is value) i (passed i)

pub sees-one : {Seen : Input → Type 0} {Is : Unit {0} → Lexeme → Type 0} → Token Seen bump Is → (i : Input) → Seen i → Sees Is i
sees-one t i h = record { value = tt; step = t.says i h }

there-is : {A : Type 0} (o : Option A) → is_there o ≡ true → (x : A) × (o ≡ Some x)
there-is None e = cc
there-is (Some x) e = (x, refl)

pub sees-a-name : (i : Input) → sees_name i ≡ true → Sees IsName i
unfolding sees_name next
sees-a-name i h = let t = there-is (name_of (next_of i.rest)) h in record { value = record { text = t.0; at = place i }; step = step (IsName (record { text = t.0; at = place i })) i (first-name t.0 i t.1) }

pub sees-a-number : (i : Input) → sees_number i ≡ true → Sees IsNumeral i
unfolding sees_number next
sees-a-number i h = let t = there-is (number_of (next_of i.rest)) h in record { value = t.0; step = step (IsNumeral t.0) i (first-number t.0 i.rest t.1) }

pub sees-a-text : (i : Input) → sees_text i ≡ true → Sees IsText i
unfolding sees_text next
sees-a-text i h = let t = there-is (text_of (next_of i.rest)) h in record { value = t.0; step = step (IsText t.0) i (first-text t.0 i.rest t.1) }

pub word-seen : (k : Keyword) → Token (λ i. sees_word k i ≡ true) bump (λ u. IsKeyword k)
unfolding sees_word next
word-seen k = record { value = tt; lexeme = record { terminal = Word k; at = 0 }; is = refl; says = λ i e. step (IsKeyword k) i (first-word k i.rest e) }

pub sign-seen : (s : Symbol) → Token (λ i. sees_sign s i ≡ true) bump (λ u. IsSign s)
unfolding sees_sign next
sign-seen s = record { value = tt; lexeme = record { terminal = Sign s; at = 0 }; is = refl; says = λ i e. step (IsSign s) i (first-sign s i.rest e) }

first-operator : (ops : Terminal → Option BinOp) (b : BinOp) (ls : List Lexeme) → op_in ops (next_of ls) ≡ Some b → First (λ l. ops l.terminal ≡ Some b) ls
first-operator ops b [] e = cc
first-operator ops b (l ∷ rest) e = record { lexeme = l; splits = refl; is = e }

-- An operator that is next somewhere.
pub operator-seen : (ops : Terminal → Option BinOp) (b : BinOp) (i : Input) → op_in ops (next i) ≡ Some b → Token (λ j. op_in ops (next j) ≡ Some b) bump (λ u l. ops l.terminal ≡ Some b)
unfolding next
operator-seen ops b i e =
    let f = first-operator ops b i.rest e in
    record { value = tt; lexeme = f.lexeme; is = f.is; says = λ j g. step (λ l. ops l.terminal ≡ Some b) j (first-operator ops b j.rest g) }

module _ {Seen : Input → Type 0} where
  pub word-token : (k : Keyword) → Token Seen (word k) (λ u. IsKeyword k)
  unfolding word
  word-token k = record {
    value = tt;
    lexeme = record { terminal = Word k; at = 0 };
    is = refl;
    says = λ i e. if-tells (λ u. IsKeyword k) i (sees_word k i) (bump i) _ ((word-seen k).says i) refl;
  }

  pub sign-token : (s : Symbol) → Token Seen (sign s) (λ u. IsSign s)
  unfolding sign
  sign-token s = record {
    value = tt;
    lexeme = record { terminal = Sign s; at = 0 };
    is = refl;
    says = λ i e. if-tells (λ u. IsSign s) i (sees_sign s i) (bump i) _ ((sign-seen s).says i) refl;
  }

  pub name-token : Token Seen name IsName
  unfolding name next
  name-token = record {
    value = record { text = 120 ∷ []; at = 0 };
    lexeme = record { terminal = Name (120 ∷ []); at = 0 };
    is = record { text = refl; place = refl };
    says = λ i e. named-tells i (name_of (next_of i.rest)) refl;
  }

  pub number-token : Token Seen number IsNumeral
  unfolding number next
  number-token = record {
    value = pos 0;
    lexeme = record { terminal = Number (pos 0); at = 0 };
    is = refl;
    says = λ i e. number-tells i (number_of (next_of i.rest)) refl;
  }

  pub text-token : Token Seen text IsText
  unfolding text next
  text-token = record {
    value = [];
    lexeme = record { terminal = Str []; at = 0 };
    is = refl;
    says = λ i e. text-tells i (text_of (next_of i.rest)) refl;
  }
