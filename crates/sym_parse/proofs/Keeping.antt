-- Two readings side by side: one by narrower limits and one by wider ones, of tokens that agree up
-- to some place. They do the same until a limit is passed or that place is left behind.
use Rattle.std.proofs.Common.{◌≡◌, ℕ, zero, suc, ◌+◌, ◌<◌, ◌≤◌, ◌⊎◌, inl, inr, Bool, true, false, nat_lt, if◌then◌else◌, List, [], ◌∷◌, ◌++◌, length, length-append, Option, Some, None, Ok, Err, refl, ap, sym, ◌∙◌, subst, arith}
use Rattle.std.proofs.lemmas.Bool.{cases_lt}
use Rattle.std.proofs.lemmas.Bool.Decides.{nat_tests}
use Rattle.sym_lex.specs.declared.keyword.Keyword.{Keyword}
use Rattle.sym_lex.specs.declared.symbol.Symbol.{Symbol}
use Rattle.sym_lex.specs.declared.symbol.Symbol.TheVariants as symbol
use Rattle.sym_parse.specs.declared.error.LimitKind.{LimitKind}
use Rattle.sym_parse.specs.declared.error.LimitKind.TheVariants as limit
use Rattle.sym_parse.specs.declared.stop.Stop.TheVariants as stop
use Rattle.sym_parse.specs.Lexemes.{Terminal, Lexeme}
use Rattle.sym_parse.specs.Steps.{Input, Parsed, Parser, and_then, ◌>>=◌, ◌>>◌, pure, choose, refuse, full, here, bump, next, place, passed, word_of, sign_of, name_of, number_of, text_of, is_this_word, is_this_sign, is_there, named, taken, sees_word, sees_sign, sees_name, sees_number, sees_text, is_done, word, sign, name, number, text, done, opening, one_statement, one_operand, repeated, separated}
use Rattle.sym_parse.specs.Sentences.{IsNoEarlier as Less}
use Rattle.sym_parse.proofs.Reading.{at}

-- A parser never goes back.
pub record Small {A : Type 0} (p : Parser A) : Type 0 where
  pub goes : (i : Input) → Less (length i.rest) (p i)

-- The tokens agree, and then `us` follow in one input and `vs` in the other; or the inputs are one.
pub data Along (us vs : List Lexeme) (floor : ℕ) : Input → Input → Type 0 where
  ahead : length us < floor → (l : Lexeme) (front : List Lexeme) (st op : ℕ) →
      Along us vs floor (at (l ∷ (front ++ us)) st op) (at (l ∷ (front ++ vs)) st op)
  same : length us ≡ length vs → (i : Input) → Along us vs floor i i

-- The second reading ends so as well.
pub record Goes {A : Type 0} (us vs : List Lexeme) (floor : ℕ) (x : A) (i : Input) (o : Parsed A) : Type 0 where
  pub input : Input
  pub reads : o ≡ Ok (x, input)
  pub along : Along us vs floor i input

-- What the first reading says of the second, as long as `floor` tokens are left. Where a limit of a
-- kind K is passed, it is passed there too.
abbrev pub Agrees : {A : Type 0} → (K : LimitKind → Type 0) (us vs : List Lexeme) (floor : ℕ) → Parsed A → Parsed A → Type 0
Agrees K us vs floor (Ok read) o = floor ≤ length read.1.rest → Goes us vs floor read.0 read.1 o
Agrees K us vs floor (Err (stop.Expected left)) o =
    floor ≤ left → (m : ℕ) → left + length vs ≡ m + length us → o ≡ Err (stop.Expected m)
Agrees K us vs floor (Err (stop.Limit left which)) o =
    floor ≤ left → (m : ℕ) → left + length vs ≡ m + length us → Less m o × (K which → o ≡ Err (stop.Limit m which))
Agrees K us vs floor (Err stop.NoMemory) o = Unit {0}

-- A number is at most another, and the same if it is one of those.
pub record AtMost (Same : Type 0) (m n : ℕ) : Type 0 where
  pub less : m ≤ n
  pub equal : Same → m ≡ n

pub at-most-self : {Same : Type 0} (n : ℕ) → AtMost Same n n
at-most-self n = record { less = omega arith; equal = λ k. refl }

pub at-most-before : {Same : Type 0} (m n : ℕ) → AtMost Same (suc m) (suc n) → AtMost Same m n
at-most-before m n h = record { less = omega (arith, h.less); equal = λ k. omega (arith, h.equal k) }

-- A parser with narrower limits, and one with wider ones. Those of the kinds K are the same.
pub record Keeps {A : Type 0} (K : LimitKind → Type 0) (p q : Parser A) : Type 0 where
  pub low : Small p
  pub high : Small q
  pub agrees : (us vs : List Lexeme) (floor : ℕ) (i j : Input) → Along us vs floor i j → Agrees K us vs floor (p i) (q j)

-- A question to the input has one answer.
abbrev pub Even : {B : Type 0} → (Input → B) → Type 0
Even view = (us vs : List Lexeme) (floor : ℕ) (i j : Input) → Along us vs floor i j → view i ≡ view j

-- ---- what is left

pub less-wider : {A : Type 0} (m n : ℕ) (o : Parsed A) → m ≤ n → Less m o → Less n o
less-wider m n (Ok read) h l = omega (arith, h, l)
less-wider m n (Err (stop.Expected left)) h l = omega (arith, h, l)
less-wider m n (Err (stop.Limit left which)) h l = omega (arith, h, l)
less-wider m n (Err stop.NoMemory) h l = absurd l

pub then-less : {A B : Type 0} (n : ℕ) (o : Parsed A) (f : A → Parser B) → Less n o → ((x : A) → Small (f x)) → Less n (and_then o f)
then-less n (Ok read) f l h = less-wider (length read.1.rest) n (f read.0 read.1) l ((h read.0).goes read.1)
then-less n (Err (stop.Expected left)) f l h = l
then-less n (Err (stop.Limit left which)) f l h = l
then-less n (Err stop.NoMemory) f l h = absurd l

if-less : {A : Type 0} (n : ℕ) (b : Bool) (o p : Parsed A) → Less n o → Less n p → Less n (if b then o else p)
if-less n true o p l m = l
if-less n false o p l m = m

pub level : (us vs : List Lexeme) (floor : ℕ) (i j : Input) → Along us vs floor i j → length i.rest + length vs ≡ length j.rest + length us
level us vs floor _ _ (ahead far l front st op) = omega (arith, length-append front us, length-append front vs)
level us vs floor _ _ (same e i) = omega (arith, e)

module _ (K : LimitKind → Type 0) where
  -- Below the floor nothing is said.
  past : {A : Type 0} (us vs : List Lexeme) (floor n : ℕ) (o r : Parsed A) → n < floor → Less n o → Agrees K us vs floor o r
  past us vs floor n (Ok read) r h l = λ above. absurd (omega (arith, h, l, above))
  past us vs floor n (Err (stop.Expected left)) r h l = λ above m e. absurd (omega (arith, h, l, above))
  past us vs floor n (Err (stop.Limit left which)) r h l = λ above m e. absurd (omega (arith, h, l, above))
  past us vs floor n (Err stop.NoMemory) r h l = tt

-- ---- one step after another

module _ (K : LimitKind → Type 0) {A B : Type 0} (us vs : List Lexeme) (floor : ℕ) (f g : A → Parser B) (low : (x : A) → Small (f x)) (high : (x : A) → Small (g x)) where
  then-read : (x : A) (i : Input) (r : Parsed A) → (length i.rest < floor) ⊎ (floor ≤ length i.rest) → (floor ≤ length i.rest → Goes us vs floor x i r) →
      ((j : Input) → Along us vs floor i j → Agrees K us vs floor (f x i) (g x j)) → Agrees K us vs floor (f x i) (and_then r g)
  then-read x i r (inl below) a goes = past K us vs floor (length i.rest) (f x i) (and_then r g) below ((low x).goes i)
  then-read x i r (inr above) a goes =
      let w = a above in
      subst (λ (o : Parsed A). Agrees K us vs floor (f x i) (and_then o g)) (sym w.reads) (goes w.input w.along)

  pub then-agrees : (o r : Parsed A) → Agrees K us vs floor o r →
      ((x : A) (i j : Input) → o ≡ Ok (x, i) → Along us vs floor i j → Agrees K us vs floor (f x i) (g x j)) → Agrees K us vs floor (and_then o f) (and_then r g)
  then-agrees (Ok read) r a goes = then-read read.0 read.1 r (cases_lt (length read.1.rest) floor) a (λ j b. goes read.0 read.1 j refl b)
  then-agrees (Err (stop.Expected left)) r a goes = λ above m e. ap (λ (o : Parsed A). and_then o g) (a above m e)
  then-agrees (Err (stop.Limit left which)) r a goes = λ above m e. let b = a above m e in (then-less m r g b.0 high, λ k. ap (λ (o : Parsed A). and_then o g) (b.1 k))
  then-agrees (Err stop.NoMemory) r a goes = tt

pub then-small : {A B : Type 0} {p : Parser A} {f : A → Parser B} → Small p → ((x : A) → Small (f x)) → Small (p >>= f)
then-small {A} {B} {p} {f} first rest = record { goes = λ i. then-less (length i.rest) (p i) f (first.goes i) rest }

module _ {K : LimitKind → Type 0} where
  pub then-keeps : {A B : Type 0} {p q : Parser A} {f g : A → Parser B} → Keeps K p q → ((x : A) → Keeps K (f x) (g x)) → Keeps K (p >>= f) (q >>= g)
  then-keeps {A} {B} {p} {q} {f} {g} first rest = record {
    low = then-small first.low (λ x. (rest x).low);
    high = then-small first.high (λ x. (rest x).high);
    agrees = λ us vs floor i j a. then-agrees K us vs floor f g (λ x. (rest x).low) (λ x. (rest x).high) (p i) (q j) (first.agrees us vs floor i j a)
        (λ x k l e b. (rest x).agrees us vs floor k l b);
  }

-- ---- choices

module _ (K : LimitKind → Type 0) where
  pub if-agrees : {A : Type 0} (us vs : List Lexeme) (floor : ℕ) (b c : Bool) (o p r s : Parsed A) → b ≡ c → Agrees K us vs floor o r → Agrees K us vs floor p s →
      Agrees K us vs floor (if b then o else p) (if c then r else s)
  if-agrees us vs floor true true o p r s e f g = f
  if-agrees us vs floor true false o p r s e f g = cc
  if-agrees us vs floor false true o p r s e f g = cc
  if-agrees us vs floor false false o p r s e f g = g

pub choose-small : {A : Type 0} (test : Input → Bool) {p q : Parser A} → Small p → Small q → Small (choose test p q)
choose-small {A} test {p} {q} a b = record { goes = λ i. if-less (length i.rest) (test i) (p i) (q i) (a.goes i) (b.goes i) }

module _ {K : LimitKind → Type 0} where
  pub choose-keeps : {A : Type 0} {test : Input → Bool} {p q r s : Parser A} → Even test → Keeps K p q → Keeps K r s → Keeps K (choose test p r) (choose test q s)
  choose-keeps {A} {test} {p} {q} {r} {s} even first second = record {
    low = choose-small test first.low second.low;
    high = choose-small test first.high second.high;
    agrees = λ us vs floor i j a. if-agrees K us vs floor (test i) (test j) (p i) (r i) (q j) (s j) (even us vs floor i j a)
        (first.agrees us vs floor i j a) (second.agrees us vs floor i j a);
  }

  -- By the answer to a question.
  pub view-keeps : {A B : Type 0} (view : Input → B) (f g : B → Parser A) → Even view → ((b : B) → Keeps K (f b) (g b)) → Keeps K (λ i. f (view i) i) (λ i. g (view i) i)
  view-keeps {A} {B} view f g even each = record {
    low = record { goes = λ i. (each (view i)).low.goes i };
    high = record { goes = λ i. (each (view i)).high.goes i };
    agrees = λ us vs floor i j a. subst (λ (b : B). Agrees K us vs floor (f (view i) i) (g b j)) (even us vs floor i j a) ((each (view i)).agrees us vs floor i j a);
  }

-- ---- single steps

pub pure-small : {A : Type 0} (x : A) → Small (pure x)
pure-small x = record { goes = λ i. omega arith }

module _ {K : LimitKind → Type 0} where
  pub pure-keeps : {A : Type 0} (x : A) → Keeps K (pure x) (pure x)
  pure-keeps x = record {
    low = pure-small x;
    high = pure-small x;
    agrees = λ us vs floor i j a above. record { input = j; reads = refl; along = a };
  }

pub refuse-small : {A : Type 0} → Small {A = A} refuse
refuse-small = record { goes = λ i. omega arith }

module _ {K : LimitKind → Type 0} where
  pub refuse-keeps : {A : Type 0} → Keeps {A = A} K refuse refuse
  refuse-keeps {A} = record {
    low = refuse-small {A = A};
    high = refuse-small {A = A};
    agrees = λ us vs floor i j a above m e. let same : length j.rest ≡ m = omega (arith, e, level us vs floor i j a) in ap (λ (k : ℕ). Err (stop.Expected k)) same;
  }

full-small : {A : Type 0} (which : LimitKind) → Small {A = A} (full which)
full-small which = record { goes = λ i. omega arith }

module _ {K : LimitKind → Type 0} where
  -- A narrower limit is passed: the other reading stops no earlier.
  pub full-keeps : {A : Type 0} (which : LimitKind) (q : Parser A) → Small q → ((j : Input) → K which → q j ≡ Err (stop.Limit (length j.rest) which)) → Keeps K (full which) q
  full-keeps {A} which q high equal = record {
    low = full-small {A = A} which;
    high = high;
    agrees = λ us vs floor i j a above m e.
        let same : length j.rest ≡ m = omega (arith, e, level us vs floor i j a) in
        (less-wider (length j.rest) m (q j) (omega (arith, same)) (high.goes j), λ k. equal j k ∙ ap (λ (l : ℕ). Err (stop.Limit l which)) same);
  }

-- ---- the next token

pub next-even : Even next
unfolding next
next-even us vs floor _ _ (ahead far l front st op) = refl
next-even us vs floor _ _ (same e i) = refl

pub place-even : Even place
unfolding place
place-even us vs floor _ _ (ahead far l front st op) = refl
place-even us vs floor _ _ (same e i) = refl

pub sees-word-even : (k : Keyword) → Even (sees_word k)
unfolding sees_word
sees-word-even k us vs floor i j a = ap (λ o. is_this_word k (word_of o)) (next-even us vs floor i j a)

pub sees-sign-even : (s : Symbol) → Even (sees_sign s)
unfolding sees_sign
sees-sign-even s us vs floor i j a = ap (λ o. is_this_sign s (sign_of o)) (next-even us vs floor i j a)

pub sees-name-even : Even sees_name
unfolding sees_name
sees-name-even us vs floor i j a = ap (λ o. is_there (name_of o)) (next-even us vs floor i j a)

pub sees-number-even : Even sees_number
unfolding sees_number
sees-number-even us vs floor i j a = ap (λ o. is_there (number_of o)) (next-even us vs floor i j a)

pub sees-text-even : Even sees_text
unfolding sees_text
sees-text-even us vs floor i j a = ap (λ o. is_there (text_of o)) (next-even us vs floor i j a)

is-done-even : Even is_done
unfolding is_done
is-done-even us vs floor i j a = ap (λ o. if is_there o then false else true) (next-even us vs floor i j a)

-- ---- one token

pub here-small : Small here
here-small = record { goes = λ i. omega arith }

module _ {K : LimitKind → Type 0} where
  pub here-keeps : Keeps K here here
  here-keeps = record {
    low = here-small;
    high = here-small;
    agrees = λ us vs floor i j a above. record { input = j; reads = ap (λ (n : ℕ). Ok (n, j)) (sym (place-even us vs floor i j a)); along = a };
  }

bump-small-in : (ls : List Lexeme) (st op : ℕ) → Less (length ls) (bump (at ls st op))
unfolding passed
bump-small-in [] st op = omega arith
bump-small-in (l ∷ ls) st op = omega arith

pub bump-small : Small bump
bump-small = record { goes = λ i. bump-small-in i.rest i.statements i.operands }

module _ (K : LimitKind → Type 0) where
  bump-agrees : (us vs : List Lexeme) (floor : ℕ) (i j : Input) → Along us vs floor i j → Agrees K us vs floor (bump i) (bump j)
  unfolding passed
  bump-agrees us vs floor _ _ (ahead far l [] st op) = λ above. absurd (omega (arith, far, above))
  bump-agrees us vs floor _ _ (ahead far l (m ∷ front) st op) = λ above. record { input = at (m ∷ (front ++ vs)) st op; reads = refl; along = ahead far m front st op }
  bump-agrees us vs floor _ _ (same e i) = λ above. record { input = passed i; reads = refl; along = same e (passed i) }

module _ {K : LimitKind → Type 0} where
  pub bump-keeps : Keeps K bump bump
  bump-keeps = record { low = bump-small; high = bump-small; agrees = bump-agrees K }

  pub word-keeps : (k : Keyword) → Keeps K (word k) (word k)
  unfolding word
  word-keeps k = choose-keeps (sees-word-even k) bump-keeps refuse-keeps

  pub sign-keeps : (s : Symbol) → Keeps K (sign s) (sign s)
  unfolding sign
  sign-keeps s = choose-keeps (sees-sign-even s) bump-keeps refuse-keeps

  named-keeps : (n : ℕ) (o : Option (List ℕ)) → Keeps K (named n o) (named n o)
  named-keeps n None = refuse-keeps
  named-keeps n (Some t) = then-keeps bump-keeps (λ u. pure-keeps (record { text = t; at = n }))

  named-of-keeps : (n : ℕ) (o : Option Terminal) → Keeps K (named n (name_of o)) (named n (name_of o))
  named-of-keeps n o = named-keeps n (name_of o)

  pub name-keeps : Keeps K name name
  unfolding name
  name-keeps = view-keeps place (λ n i. named n (name_of (next i)) i) (λ n i. named n (name_of (next i)) i) place-even
      (λ n. view-keeps next (λ o. named n (name_of o)) (λ o. named n (name_of o)) next-even (named-of-keeps n))

  taken-keeps : {A : Type 0} (o : Option A) → Keeps K (taken o) (taken o)
  taken-keeps None = refuse-keeps
  taken-keeps (Some x) = then-keeps bump-keeps (λ u. pure-keeps x)

  pub number-keeps : Keeps K number number
  unfolding number
  number-keeps = view-keeps next (λ o. taken (number_of o)) (λ o. taken (number_of o)) next-even (λ o. taken-keeps (number_of o))

  pub text-keeps : Keeps K text text
  unfolding text
  text-keeps = view-keeps next (λ o. taken (text_of o)) (λ o. taken (text_of o)) next-even (λ o. taken-keeps (text_of o))

  pub done-keeps : Keeps K done done
  unfolding done
  done-keeps = choose-keeps is-done-even (pure-keeps tt) refuse-keeps

-- ---- what is counted

module _ {K : LimitKind → Type 0} where
  -- A level is opened, and what follows it is read one level deeper.
  pub opened-keeps : {A : Type 0} (r s : ℕ) → AtMost (K limit.Depth) r s → {p q : Parser A} → (0 < r → Keeps K p q) → Small q → Keeps K (opening r >> p) (opening s >> q)
  unfolding opening
  opened-keeps zero zero h {p} {q} keeps small = full-keeps limit.Depth (opening zero >> q) (record { goes = λ i. omega arith }) (λ j k. refl)
  opened-keeps zero (suc s) h {p} {q} keeps small = full-keeps limit.Depth (opening (suc s) >> q) (then-small bump-small (λ u. small)) (λ j k. absurd (omega (arith, h.equal k)))
  opened-keeps (suc r) zero h {p} {q} keeps small = absurd (omega (arith, h.less))
  opened-keeps (suc r) (suc s) h {p} {q} keeps small = then-keeps bump-keeps (λ u. keeps (omega arith))

module _ (K : LimitKind → Type 0) where
  counted-agrees : (us vs : List Lexeme) (floor : ℕ) (which : LimitKind) (b c : Bool) (m n : ℕ) (i j : Input) → (b ≡ true → c ≡ true) → (K which → b ≡ c) → Along us vs floor i j → length i.rest ≡ m →
      length j.rest ≡ n → m + length vs ≡ n + length us → Agrees {A = Unit {0}} K us vs floor (if b then Ok (tt, i) else Err (stop.Limit m which)) (if c then Ok (tt, j) else Err (stop.Limit n which))
  counted-agrees us vs floor which true true m n i j h s a p q e = λ above. record { input = j; reads = refl; along = a }
  counted-agrees us vs floor which true false m n i j h s a p q e = let t = h refl in cc
  counted-agrees us vs floor which false true m n i j h s a p q e = λ above k f. (omega (arith, p, q, e, f), λ l. let t = s l in cc)
  counted-agrees us vs floor which false false m n i j h s a p q e = λ above k f. (omega (arith, p, q, e, f), λ l. let t : n ≡ k = omega (arith, p, q, e, f) in ap (λ (o : ℕ). Err (stop.Limit o which)) t)

one-operand-small : (most : ℕ) → Small (one_operand most)
unfolding one_operand
one-operand-small most = record {
  goes = λ i. if-less {A = Unit {0}} (length i.rest) (nat_lt i.operands most) (Ok (tt, record i { operands = i.operands + 1 })) (Err (stop.Limit (length i.rest) limit.Operands)) (omega arith) (omega arith);
}

fits-wider : (k m n : ℕ) → m ≤ n → nat_lt k m ≡ true → nat_lt k n ≡ true
fits-wider k m n h e = grind (arith, nat_tests)

module _ (K : LimitKind → Type 0) where
  one-operand-agrees : (m n : ℕ) → AtMost (K limit.Operands) m n → (us vs : List Lexeme) (floor : ℕ) (i j : Input) → Along us vs floor i j → Agrees K us vs floor (one_operand m i) (one_operand n j)
  unfolding one_operand
  one-operand-agrees m n h us vs floor _ _ (ahead far l front st op) =
      counted-agrees K us vs floor limit.Operands (nat_lt op m) (nat_lt op n) (length (l ∷ (front ++ us))) (length (l ∷ (front ++ vs))) (at (l ∷ (front ++ us)) st (op + 1)) (at (l ∷ (front ++ vs)) st (op + 1))
      (fits-wider op m n h.less) (λ k. ap (nat_lt op) (h.equal k)) (ahead far l front st (op + 1)) refl refl (level us vs floor (at (l ∷ (front ++ us)) st op) (at (l ∷ (front ++ vs)) st op) (ahead far l front st op))
  one-operand-agrees m n h us vs floor _ _ (same e i) =
      counted-agrees K us vs floor limit.Operands (nat_lt i.operands m) (nat_lt i.operands n) (length i.rest) (length i.rest) (record i { operands = i.operands + 1 }) (record i { operands = i.operands + 1 })
      (fits-wider i.operands m n h.less) (λ k. ap (nat_lt i.operands) (h.equal k)) (same e (record i { operands = i.operands + 1 })) refl refl (omega (arith, e))

module _ {K : LimitKind → Type 0} where
  pub one-operand-keeps : (m n : ℕ) → AtMost (K limit.Operands) m n → Keeps K (one_operand m) (one_operand n)
  one-operand-keeps m n h = record { low = one-operand-small m; high = one-operand-small n; agrees = one-operand-agrees K m n h }

one-statement-small : (most : ℕ) → Small (one_statement most)
unfolding one_statement
one-statement-small most = record {
  goes = λ i. if-less {A = Unit {0}} (length i.rest) (nat_lt i.statements most) (Ok (tt, record i { statements = i.statements + 1 })) (Err (stop.Limit (length i.rest) limit.Statements)) (omega arith) (omega arith);
}

module _ (K : LimitKind → Type 0) where
  one-statement-agrees : (m n : ℕ) → AtMost (K limit.Statements) m n → (us vs : List Lexeme) (floor : ℕ) (i j : Input) → Along us vs floor i j → Agrees K us vs floor (one_statement m i) (one_statement n j)
  unfolding one_statement
  one-statement-agrees m n h us vs floor _ _ (ahead far l front st op) =
      counted-agrees K us vs floor limit.Statements (nat_lt st m) (nat_lt st n) (length (l ∷ (front ++ us))) (length (l ∷ (front ++ vs))) (at (l ∷ (front ++ us)) (st + 1) op) (at (l ∷ (front ++ vs)) (st + 1) op)
      (fits-wider st m n h.less) (λ k. ap (nat_lt st) (h.equal k)) (ahead far l front (st + 1) op) refl refl (level us vs floor (at (l ∷ (front ++ us)) st op) (at (l ∷ (front ++ vs)) st op) (ahead far l front st op))
  one-statement-agrees m n h us vs floor _ _ (same e i) =
      counted-agrees K us vs floor limit.Statements (nat_lt i.statements m) (nat_lt i.statements n) (length i.rest) (length i.rest) (record i { statements = i.statements + 1 }) (record i { statements = i.statements + 1 })
      (fits-wider i.statements m n h.less) (λ k. ap (nat_lt i.statements) (h.equal k)) (same e (record i { statements = i.statements + 1 })) refl refl (omega (arith, e))

module _ {K : LimitKind → Type 0} where
  pub one-statement-keeps : (m n : ℕ) → AtMost (K limit.Statements) m n → Keeps K (one_statement m) (one_statement n)
  one-statement-keeps m n h = record { low = one-statement-small m; high = one-statement-small n; agrees = one-statement-agrees K m n h }

-- Counting begins anew.
reset-operands : (us vs : List Lexeme) (floor : ℕ) (i j : Input) → Along us vs floor i j → Along us vs floor (record i { operands = 0 }) (record j { operands = 0 })
reset-operands us vs floor _ _ (ahead far l front st op) = ahead far l front st 0
reset-operands us vs floor _ _ (same e i) = same e (record i { operands = 0 })

reset-statements : (us vs : List Lexeme) (floor : ℕ) (i j : Input) → Along us vs floor i j → Along us vs floor (record i { statements = 0 }) (record j { statements = 0 })
reset-statements us vs floor _ _ (ahead far l front st op) = ahead far l front 0 op
reset-statements us vs floor _ _ (same e i) = same e (record i { statements = 0 })

module _ {K : LimitKind → Type 0} where
  pub from-operands-keeps : {A : Type 0} {p q : Parser A} → Keeps K p q → Keeps K (λ i. p (record i { operands = 0 })) (λ i. q (record i { operands = 0 }))
  from-operands-keeps {A} {p} {q} keeps = record {
    low = record { goes = λ i. keeps.low.goes (record i { operands = 0 }) };
    high = record { goes = λ i. keeps.high.goes (record i { operands = 0 }) };
    agrees = λ us vs floor i j a. keeps.agrees us vs floor (record i { operands = 0 }) (record j { operands = 0 }) (reset-operands us vs floor i j a);
  }

  pub from-statements-keeps : {A : Type 0} {p q : Parser A} → Keeps K p q → Keeps K (λ i. p (record i { statements = 0 })) (λ i. q (record i { statements = 0 }))
  from-statements-keeps {A} {p} {q} keeps = record {
    low = record { goes = λ i. keeps.low.goes (record i { statements = 0 }) };
    high = record { goes = λ i. keeps.high.goes (record i { statements = 0 }) };
    agrees = λ us vs floor i j a. keeps.agrees us vs floor (record i { statements = 0 }) (record j { statements = 0 }) (reset-statements us vs floor i j a);
  }

-- ---- past K a token

module _ (K : LimitKind → Type 0) where
  -- What is read past K the next token agrees, if it does where the inputs still do.
  pub bumped : {A : Type 0} (us vs : List Lexeme) (floor : ℕ) (i j : Input) (o r : Parsed A) → Along us vs floor i j → Less (length (passed i).rest) o →
      (Along us vs floor (passed i) (passed j) → Agrees K us vs floor o r) → Agrees K us vs floor o r
  unfolding passed
  bumped us vs floor _ _ o r (ahead far l [] st op) small goes = past K us vs floor (length us) o r far small
  bumped us vs floor _ _ o r (ahead far l (m ∷ front) st op) small goes = goes (ahead far m front st op)
  bumped us vs floor _ _ o r (same e i) small goes = goes (same e (passed i))

shorter-in : (ls : List Lexeme) (st op : ℕ) → 0 < length ls → length (passed (at ls st op)).rest + 1 ≡ length ls
unfolding passed
shorter-in [] st op some = absurd (omega (arith, some))
shorter-in (l ∷ ls) st op some = omega arith

sign-left-in : (s : Symbol) (ls : List Lexeme) (st op : ℕ) → sees_sign s (at ls st op) ≡ true → 0 < length ls
unfolding sees_sign next
sign-left-in s [] st op e = cc
sign-left-in s (l ∷ ls) st op e = omega arith

-- A token was taken.
pub shorter : (i : Input) → 0 < length i.rest → length (passed i).rest + 1 ≡ length i.rest
shorter i some = shorter-in i.rest i.statements i.operands some

pub sign-left : (s : Symbol) (i : Input) → sees_sign s i ≡ true → 0 < length i.rest
sign-left s i e = sign-left-in s i.rest i.statements i.operands e

-- ---- lists

module _ {K : LimitKind → Type 0} {A : Type 0} (which : LimitKind) (begins : Input → Bool) (even : Even begins) (p q : Parser A) (item : Keeps K p q) where
  repeated-small : (n : ℕ) (found : List A) → Small (repeated which begins q n found)
  unfolding repeated
  repeated-small zero found = choose-small begins (full-small {A = List A} which) (pure-small found)
  repeated-small (suc n) found = choose-small begins (then-small item.high (λ x. repeated-small n (found ++ x ∷ []))) (pure-small found)

  pub repeated-keeps : (m n : ℕ) → AtMost (K which) m n → (found : List A) → Keeps K (repeated which begins p m found) (repeated which begins q n found)
  unfolding repeated
  repeated-keeps zero zero h found = choose-keeps even (full-keeps which (full which) (full-small {A = List A} which) (λ j k. refl)) (pure-keeps found)
  repeated-keeps zero (suc n) h found =
      choose-keeps even (full-keeps which (q >>= (λ x. repeated which begins q n (found ++ x ∷ []))) (then-small item.high (λ x. repeated-small n (found ++ x ∷ []))) (λ j k. absurd (omega (arith, h.equal k)))) (pure-keeps found)
  repeated-keeps (suc m) zero h found = absurd (omega (arith, h.less))
  repeated-keeps (suc m) (suc n) h found = choose-keeps even (then-keeps item (λ x. repeated-keeps m n (at-most-before m n h) (found ++ x ∷ []))) (pure-keeps found)

module _ {K : LimitKind → Type 0} {A : Type 0} (which : LimitKind) (begins : Input → Bool) (even : Even begins) (p q : Parser A) (item : Keeps K p q)
    (none : (i : Input) → begins i ≡ false → q i ≡ Err (stop.Expected (length i.rest))) where
  separated-small : (n : ℕ) (found : List A) → Small (separated which begins q n found)
  unfolding separated
  separated-small zero found = choose-small (sees_sign symbol.Comma) (then-small bump-small (λ u. choose-small begins (full-small {A = List A} which) (refuse-small {A = List A}))) (pure-small found)
  separated-small (suc n) found = choose-small (sees_sign symbol.Comma) (then-small bump-small (λ u. then-small item.high (λ x. separated-small n (found ++ x ∷ [])))) (pure-small found)

  -- Where no more may stand, what begins an item passes the number, and nothing else can stand.
  last-agrees : (f : A → Parser (List A)) → ((x : A) → Small (f x)) → (K which → ⊥) → (us vs : List Lexeme) (floor : ℕ) (i j : Input) (b : Bool) → Along us vs floor i j → begins i ≡ b →
      Agrees K us vs floor (if b then Err (stop.Limit (length i.rest) which) else Err (stop.Expected (length i.rest))) (and_then (q j) f)
  last-agrees f high other us vs floor i j true a e = λ above m h.
      let left : length j.rest ≡ m = omega (arith, h, level us vs floor i j a) in
      (less-wider (length j.rest) m (and_then (q j) f) (omega (arith, left)) (then-less (length j.rest) (q j) f (item.high.goes j) high), λ k. absurd (other k))
  last-agrees f high other us vs floor i j false a e = λ above m h.
      let left : length j.rest ≡ m = omega (arith, h, level us vs floor i j a) in
      ap (λ (o : Parsed A). and_then o f) (none j (sym (even us vs floor i j a) ∙ e)) ∙ ap (λ (k : ℕ). Err (stop.Expected k)) left

  last-keeps : (f : A → Parser (List A)) → ((x : A) → Small (f x)) → (K which → ⊥) → Keeps K (choose begins (full which) refuse) (q >>= f)
  last-keeps f high other = record {
    low = choose-small begins (full-small {A = List A} which) (refuse-small {A = List A});
    high = then-small item.high high;
    agrees = λ us vs floor i j a. last-agrees f high other us vs floor i j (begins i) a refl;
  }

  pub separated-keeps : (m n : ℕ) → AtMost (K which) m n → (found : List A) → Keeps K (separated which begins p m found) (separated which begins q n found)
  unfolding separated
  separated-keeps zero zero h found =
      choose-keeps (sees-sign-even symbol.Comma) (then-keeps bump-keeps (λ u. choose-keeps even (full-keeps which (full which) (full-small {A = List A} which) (λ j k. refl)) refuse-keeps)) (pure-keeps found)
  separated-keeps zero (suc n) h found =
      choose-keeps (sees-sign-even symbol.Comma) (then-keeps bump-keeps (λ u. last-keeps (λ x. separated which begins q n (found ++ x ∷ [])) (λ x. separated-small n (found ++ x ∷ [])) (λ k. omega (arith, h.equal k)))) (pure-keeps found)
  separated-keeps (suc m) zero h found = absurd (omega (arith, h.less))
  separated-keeps (suc m) (suc n) h found =
      choose-keeps (sees-sign-even symbol.Comma) (then-keeps bump-keeps (λ u. then-keeps item (λ x. separated-keeps m n (at-most-before m n h) (found ++ x ∷ [])))) (pure-keeps found)
