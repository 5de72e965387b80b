-- What a parser says of the tokens that it took, and of those before the place where it can't go on:
-- they are a sentence of its line, or they begin one. The limits under which they do are as narrow
-- as can be.
use Rattle.std.proofs.Common.{◌≡◌, ℕ, zero, suc, ◌+◌, ◌-◌, ◌<◌, ◌≤◌, Bool, true, false, nat_lt, if◌then◌else◌, List, [], ◌∷◌, ◌++◌, length, Ok, Err, refl, ap, sym, ◌∙◌, subst, arith, append_assoc, length-append}
use Rattle.std.proofs.lemmas.List.{append-nil}
use Rattle.std.proofs.lemmas.Bool.Decides.{nat_tests}
use Rattle.sym_lex.specs.declared.symbol.Symbol.TheVariants as symbol
use Rattle.sym_parse.specs.declared.error.LimitKind.{LimitKind}
use Rattle.sym_parse.specs.declared.error.LimitKind.TheVariants as limit
use Rattle.sym_parse.specs.declared.stop.Stop.{Stop}
use Rattle.sym_parse.specs.declared.stop.Stop.TheVariants as stop
use Rattle.sym_parse.specs.Beginnings.{Begins}
use Rattle.sym_parse.specs.Lexemes.{Lexeme, IsSign}
use Rattle.sym_parse.specs.Steps.{Input, Parsed, Parser, and_then, ◌>>=◌, ◌>>◌, pure, choose, refuse, full, here, bump, passed, place, place_of, opening, one_operand, one_statement, repeated, separated}
use Rattle.sym_parse.specs.Syntax.Declarations as syntax
use Rattle.sym_parse.specs.Syntax.Declarations.{AreItems, AreFurther, AreAtMost, AreSome, AreSeparated}
use Rattle.sym_parse.proofs.Taking.{Token, Tells, Step, Sees, sees-one, sign-seen}
use Rattle.sym_parse.proofs.Wanting.{wanted, final, final-after, raised, raised-self, raised-wanted, wanted-none}

-- ---- what is said

-- The limits, and the levels that are free.
pub record Numbers : Type 0 where
  pub most : LimitKind → ℕ
  pub room : ℕ

-- Numbers that are wider than others by so much, and one of each kind may stand.
pub record Wider (m : Numbers) (extra : LimitKind → ℕ) (n : Numbers) : Type 0 where
  pub wide : (k : LimitKind) → m.most k + extra k ≤ n.most k
  pub deep : m.room + extra limit.Depth ≤ n.room
  pub one : (k : LimitKind) → 1 ≤ n.most k

abbrev pub none : LimitKind → ℕ
none k = 0

-- Numbers that are as wide as others.
abbrev pub Fits : Numbers → Numbers → Type 0
Fits m n = Wider m none n

-- With some numbers: which tokens are which value, where so many are counted.
abbrev pub Meaning : Type 0 → Type 1
Meaning A = Numbers → List Lexeme → ℕ → A → Type 0

-- What a line counts. The count of the other kind stays the same in an expression.
pub data Counting : Type 0 where
  Operands : Counting
  Statements : Counting
  Nothing : Counting

abbrev pub counter : Counting → Input → ℕ
counter Operands i = i.operands
counter Statements i = i.statements
counter Nothing i = 0

abbrev pub still : Counting → Input → ℕ
still Operands i = i.statements
still Statements i = 0
still Nothing i = 0

abbrev pub counted : Counting → LimitKind
counted Operands = limit.Operands
counted Statements = limit.Statements
counted Nothing = limit.Statements

-- So many were counted between two inputs, and their limit was kept.
pub record Counts (w : Counting) (m : Numbers) (i j : Input) (count : ℕ) : Type 0 where
  pub more : counter w j ≡ counter w i + count
  pub few : counter w i ≤ m.most (counted w) → counter w j ≤ m.most (counted w)
  pub same : still w j ≡ still w i

-- The tokens that were taken mean this, also with wider numbers.
pub record Took {A : Type 0} (w : Counting) (m : Numbers) (R : Meaning A) (i : Input) (x : A) (j : Input) : Type 0 where
  pub taken : List Lexeme
  pub count : ℕ
  pub splits : i.rest ≡ taken ++ j.rest
  pub counts : Counts w m i j count
  pub means : (n : Numbers) → Fits m n → R n taken count x

-- Some tokens mean something, with numbers that are wider by so much, and count for so much at most.
pub record Exists {A : Type 0} (m : Numbers) (extra : LimitKind → ℕ) (need : ℕ) (R : Meaning A) : Type 0 where
  pub tokens : List Lexeme
  pub count : ℕ
  pub value : A
  pub few : count ≤ need
  pub means : (n : Numbers) → Wider m extra n → R n tokens count value

-- These tokens begin something, with numbers that are wider by so much.
pub record GoesOn {A : Type 0} (w : Counting) (m : Numbers) (R : Meaning A) (i : Input) (extra : LimitKind → ℕ) : Type 0 where
  pub tokens : List Lexeme
  pub count : ℕ
  pub value : A
  pub few : counter w i ≤ m.most (counted w) → counter w i + count ≤ m.most (counted w) + extra (counted w)
  pub means : (n : Numbers) → Wider m extra n → R n (i.rest ++ tokens) count value

-- The last of these tokens begins a thing that passes a limit, with which they can go on.
pub record Passes {A : Type 0} (w : Counting) (m : Numbers) (R : Meaning A) (i : Input) (which : LimitKind) : Type 0 where
  pub there : 0 < length i.rest
  pub begins : (d : Lexeme) → Begins which (final d i.rest).terminal
  pub goes_on : GoesOn w m R i (raised which)

-- Where reading stops at the end, or at the last token since that passes a limit. The line may begin
-- with an operand if the token before it wants one.
abbrev pub Stops : {A : Type 0} → Counting → Numbers → ℕ → Meaning A → Input → Stop → Type 0
Stops w m need R i (stop.Expected left) = left ≡ 0 → (d : Lexeme) → need ≤ wanted d (counted w) → GoesOn w m R i (wanted (final d i.rest))
Stops w m need R i (stop.Limit left which) = (0 < left) × (left ≡ 1 → Passes w m R i which)
Stops w m need R i stop.NoMemory = Unit {0}

abbrev pub Says : {A : Type 0} → Counting → Numbers → ℕ → Meaning A → Input → Parsed A → Type 0
Says w m need R i (Ok read) = Took w m R i read.0 read.1
Says w m need R i (Err stopped) = Stops w m need R i stopped

-- What a parser says at inputs where a test of the next token has been passed.
pub record Speaks {A : Type 0} (w : Counting) (m : Numbers) (need : ℕ) (Seen : Input → Type 0) (p : Parser A) (R : Meaning A) : Type 0 where
  pub says : (i : Input) → Seen i → Says w m need R i (p i)

-- A parser of a line, at such inputs. What the line is at least counts for so much at most.
pub record Recognizes {A : Type 0} (w : Counting) (m : Numbers) (need : ℕ) (Seen : Input → Type 0) (p : Parser A) (R : Meaning A) : Type 0 where
  pub some : Exists m none need R
  pub speaks : Speaks w m need Seen p R

abbrev pub Any : Input → Type 0
Any i = Unit {0}

-- ---- numbers and counts

pub fits : (m : Numbers) (extra : LimitKind → ℕ) (n : Numbers) → Wider m extra n → Fits m n
fits m extra n f = record { wide = λ k. omega (arith, f.wide k); deep = omega (arith, f.deep); one = f.one }

pub fits-self : (m : Numbers) → ((k : LimitKind) → 1 ≤ m.most k) → Fits m m
fits-self m one = record { wide = λ k. omega arith; deep = omega arith; one = one }

counts-none : (w : Counting) (m : Numbers) (i : Input) → Counts w m i i 0
counts-none w m i = record { more = omega arith; few = λ h. h; same = refl }

counts-both : (w : Counting) (m : Numbers) (i j k : Input) (a b : ℕ) → Counts w m i j a → Counts w m j k b → Counts w m i k (a + b)
counts-both w m i j k a b p q = record { more = omega (arith, p.more, q.more); few = λ h. q.few (p.few h); same = q.same ∙ p.same }

counts-step : (w : Counting) (m : Numbers) (i j k : Input) (b : ℕ) → j.statements ≡ i.statements → j.operands ≡ i.operands → Counts w m j k b → Counts w m i k b
counts-step Operands m i j k b s o q = record { more = q.more ∙ ap (λ n. n + b) o; few = λ h. q.few (omega (arith, h, o)); same = q.same ∙ s }
counts-step Statements m i j k b s o q = record { more = q.more ∙ ap (λ n. n + b) s; few = λ h. q.few (omega (arith, h, s)); same = refl }
counts-step Nothing m i j k b s o q = record { more = q.more; few = q.few; same = refl }

same-counter : (w : Counting) (i j : Input) → j.statements ≡ i.statements → j.operands ≡ i.operands → counter w j ≡ counter w i
same-counter Operands i j s o = o
same-counter Statements i j s o = s
same-counter Nothing i j s o = refl

-- ---- one line as another

-- Numbers that are made of others, with the same limits.
pub record Shift (m k : Numbers) : Type 0 where
  pub other : Numbers → Numbers
  pub same : (c : LimitKind) → k.most c ≡ m.most c
  pub wide : (extra : LimitKind → ℕ) (n : Numbers) → Wider m extra n → Wider k extra (other n)

abbrev pub same : {A : Type 0} → A → A
same x = x

abbrev pub unchanged : (m : Numbers) → Shift m m
unchanged m = record { other = same; same = λ c. refl; wide = λ extra n f. f }

-- So many are few enough for one line where they are for another.
abbrev pub Fewer : Counting → Counting → Numbers → Numbers → Input → Input → (ℕ → ℕ) → Type 0
Fewer v w k m i j add =
    (c : ℕ) (extra : LimitKind → ℕ) → (counter v i ≤ k.most (counted v) → counter v i + c ≤ k.most (counted v) + extra (counted v)) →
    counter w j ≤ m.most (counted w) → counter w j + add c ≤ m.most (counted w) + extra (counted w)

-- A line that is read by such numbers, after some lexemes, and whose count is another.
module _ {A : Type 0} (v w : Counting) (k m : Numbers) (P R : Meaning A) (shift : Shift m k) (before : List Lexeme) (add : ℕ → ℕ)
    (means : (n : Numbers) (ls : List Lexeme) (c : ℕ) (x : A) → Fits m n → P (shift.other n) ls c x → R n (before ++ ls) (add c) x) where
  exists-led : (extra : LimitKind → ℕ) (a b : ℕ) → ((c : ℕ) → c ≤ a → add c ≤ b) → Exists k extra a P → Exists m extra b R
  exists-led extra a b few e = record {
    tokens = before ++ e.tokens;
    count = add e.count;
    value = e.value;
    few = few e.count e.few;
    means = λ n f. means n e.tokens e.count e.value (fits m extra n f) (e.means (shift.other n) (shift.wide extra n f));
  }

  goes-led : (i j : Input) (extra : LimitKind → ℕ) → j.rest ≡ before ++ i.rest → Fewer v w k m i j add → GoesOn v k P i extra → GoesOn w m R j extra
  goes-led i j extra b few g = record {
    tokens = g.tokens;
    count = add g.count;
    value = g.value;
    few = few g.count extra g.few;
    means = λ n f. subst (λ (ls : List Lexeme). R n ls (add g.count) g.value) (sym (append_assoc before i.rest g.tokens) ∙ ap (λ (ls : List Lexeme). ls ++ g.tokens) (sym b))
        (means n (i.rest ++ g.tokens) g.count g.value (fits m extra n f) (g.means (shift.other n) (shift.wide extra n f)));
  }

  passes-led : (i j : Input) (which : LimitKind) → j.rest ≡ before ++ i.rest → Fewer v w k m i j add → Passes v k P i which → Passes w m R j which
  passes-led i j which b few p = record {
    there = omega (arith, p.there, ap length b, length-append before i.rest);
    begins = λ d. subst (λ (l : Lexeme). Begins which l.terminal) (sym (final-after d before i.rest) ∙ ap (final d) (sym b)) (p.begins (final d before));
    goes_on = goes-led i j (raised which) b few p.goes_on;
  }

  stops-led : (i j : Input) (a c : ℕ) → j.rest ≡ before ++ i.rest → Fewer v w k m i j add → ((d : Lexeme) → c ≤ wanted d (counted w) → a ≤ wanted (final d before) (counted v)) →
      (s : Stop) → Stops v k a P i s → Stops w m c R j s
  stops-led i j a c b few ready (stop.Expected left) s = λ e d h.
      subst (λ (l : Lexeme). GoesOn w m R j (wanted l)) (sym (final-after d before i.rest) ∙ ap (final d) (sym b))
      (goes-led i j (wanted (final (final d before) i.rest)) b few (s e (final d before) (ready d h)))
  stops-led i j a c b few ready (stop.Limit left which) s = (s.0, λ e. passes-led i j which b few (s.1 e))
  stops-led i j a c b few ready stop.NoMemory s = tt

  says-led : (i j : Input) (a c : ℕ) → j.rest ≡ before ++ i.rest → ((l : Input) (d : ℕ) → Counts v k i l d → Counts w m j l (add d)) → Fewer v w k m i j add →
      ((d : Lexeme) → c ≤ wanted d (counted w) → a ≤ wanted (final d before) (counted v)) → (o : Parsed A) → Says v k a P i o → Says w m c R j o
  says-led i j a c b counts few ready (Ok read) t =
      record {
        taken = before ++ t.taken;
        count = add t.count;
        splits = b ∙ ap (λ (ls : List Lexeme). before ++ ls) t.splits ∙ sym (append_assoc before t.taken read.1.rest);
        counts = counts read.1 t.count t.counts;
        means = λ n f. means n t.taken t.count read.0 f (t.means (shift.other n) (shift.wide none n f));
      }
  says-led i j a c b counts few ready (Err stopped) s = stops-led i j a c b few ready stopped s

stops-as : {A B : Type 0} (w : Counting) (m : Numbers) (need : ℕ) (P : Meaning A) (R : Meaning B) (i : Input) → ((extra : LimitKind → ℕ) → GoesOn w m P i extra → GoesOn w m R i extra) → (s : Stop) → Stops w m need P i s → Stops w m need R i s
stops-as w m need P R i each (stop.Expected left) s = λ e d h. each (wanted (final d i.rest)) (s e d h)
stops-as w m need P R i each (stop.Limit left which) s = (s.0, λ e. let p = s.1 e in record { there = p.there; begins = p.begins; goes_on = each (raised which) p.goes_on })
stops-as w m need P R i each stop.NoMemory s = tt

module _ {A : Type 0} (w : Counting) (m : Numbers) (P R : Meaning A) (means : (n : Numbers) (ls : List Lexeme) (c : ℕ) (x : A) → Fits m n → P n ls c x → R n ls c x) where
  pub exists-as : (extra : LimitKind → ℕ) (need : ℕ) → Exists m extra need P → Exists m extra need R
  exists-as extra need e = exists-led w w m m P R (unchanged m) [] same means extra need need (λ c h. h) e

  pub says-as : (i : Input) (need : ℕ) (o : Parsed A) → Says w m need P i o → Says w m need R i o
  says-as i need o s = says-led w w m m P R (unchanged m) [] same means i i need need refl (λ l c h. h) (λ c extra h. h) (λ d h. h) o s

  pub as-line : {need : ℕ} {Seen : Input → Type 0} {p : Parser A} → Recognizes w m need Seen p P → Recognizes w m need Seen p R
  as-line {need} {Seen} {p} r = record { some = exists-as none need r.some; speaks = record { says = λ i h. says-as i need (p i) (r.speaks.says i h) } }

-- By other numbers.
counts-by : (w : Counting) (m k : Numbers) → Shift m k → (i l : Input) (c : ℕ) → Counts w k i l c → Counts w m i l c
counts-by w m k shift i l c h = record { more = h.more; few = λ few. omega (arith, shift.same (counted w), h.few (omega (arith, shift.same (counted w), few))); same = h.same }

fewer-by : (w : Counting) (m k : Numbers) → Shift m k → (i : Input) → Fewer w w k m i i same
fewer-by w m k shift i c extra h few = omega (arith, shift.same (counted w), h (omega (arith, shift.same (counted w), few)))

pub by-numbers : {A : Type 0} (w : Counting) (m k : Numbers) (P : Meaning A) (shift : Shift m k) → {need : ℕ} {Seen : Input → Type 0} {p : Parser A} → Recognizes w k need Seen p P → Recognizes w m need Seen p (λ n ls c x. P (shift.other n) ls c x)
by-numbers {A} w m k P shift {need} {Seen} {p} r =
    let R : Meaning A = λ n ls c x. P (shift.other n) ls c x in
    record {
      some = exists-led w w k m P R shift [] same (λ n ls c x f is. is) none need need (λ c h. h) r.some;
      speaks = record { says = λ i h. says-led w w k m P R shift [] same (λ n ls c x f is. is) i i need need refl (counts-by w m k shift i) (fewer-by w m k shift i) (λ d h. h) (p i) (r.speaks.says i h) };
    }

-- Where nothing is counted any more.
pub uncounted-line : {A : Type 0} (w : Counting) (m : Numbers) (P : Meaning A) (Q : Numbers → List Lexeme → A → Type 0) → ((n : Numbers) (ls : List Lexeme) (c : ℕ) (x : A) → P n ls c x → Q n ls x) →
    {Seen : Input → Type 0} {p : Parser A} → Recognizes w m 0 Seen p P → Recognizes Nothing m 0 Seen p (λ n ls c x. Q n ls x)
uncounted-line {A} w m P Q means {Seen} {p} r =
    let R : Meaning A = λ n ls c x. Q n ls x in
    record {
      some = exists-led w Nothing m m P R (unchanged m) [] (λ c. 0) (λ n ls c x f is. means n ls c x is) none 0 0 (λ c h. omega arith) r.some;
      speaks = record { says = λ i h. says-led w Nothing m m P R (unchanged m) [] (λ c. 0) (λ n ls c x f is. means n ls c x is) i i 0 0 refl (λ l c k. record { more = refl; few = λ f. f; same = refl }) (λ c extra k f. omega arith) (λ d k. omega arith) (p i) (r.speaks.says i h) };
    }

-- ---- a line alone

-- Nothing of a line was read.
length-none : (ls : List Lexeme) → length ls ≡ 0 → ls ≡ []
length-none [] e = refl
length-none (l ∷ ls) e = absurd (omega (arith, e))

pub exists-goes : {A : Type 0} (w : Counting) (m : Numbers) (need : ℕ) (R : Meaning A) (i : Input) (d : Lexeme) → length i.rest ≡ 0 → need ≤ wanted d (counted w) → Exists m none need R → GoesOn w m R i (wanted (final d i.rest))
exists-goes w m need R i d e h x =
    let empty : i.rest ≡ [] = length-none i.rest e in
    subst (λ (l : Lexeme). GoesOn w m R i (wanted l)) (ap (final d) (sym empty)) (record {
      tokens = x.tokens;
      count = x.count;
      value = x.value;
      few = λ few. omega (arith, few, x.few, h);
      means = λ n f. subst (λ (ls : List Lexeme). R n (ls ++ x.tokens) x.count x.value) (sym empty) (x.means n (fits m (wanted d) n f));
    })

-- A line whose size is what was counted from 0, and has a limit.
module _ {A : Type 0} (v w : Counting) (k m : Numbers) (P : Meaning A) (R : Numbers → List Lexeme → A → Type 0) (shift : Shift m k)
    (means : (n : Numbers) (ls : List Lexeme) (c : ℕ) (x : A) → P (shift.other n) ls c x → c ≤ n.most (counted v) → R n ls x) where
  abbrev Sized : Meaning A
  Sized n ls c x = R n ls x × (c ≡ 0)

  pub exists-sized : (need : ℕ) → need ≤ 1 → Exists k none need P → Exists m none 0 Sized
  exists-sized need one e = record {
    tokens = e.tokens;
    count = 0;
    value = e.value;
    few = omega arith;
    means = λ n f. (means n e.tokens e.count e.value (e.means (shift.other n) (shift.wide none n f)) (omega (arith, one, e.few, f.one (counted v))), refl);
  }

  goes-sized : (i j : Input) (extra : LimitKind → ℕ) → j.rest ≡ i.rest → counter v i ≡ 0 → GoesOn v k P i extra → GoesOn w m Sized j extra
  goes-sized i j extra b reset g = record {
    tokens = g.tokens;
    count = 0;
    value = g.value;
    few = λ few. omega (arith, few);
    means = λ n f.
        let size : g.count ≤ n.most (counted v) = omega (arith, g.few (omega (arith, reset)), reset, shift.same (counted v), f.wide (counted v)) in
        (subst (λ (ls : List Lexeme). R n (ls ++ g.tokens) g.value) (sym b) (means n (i.rest ++ g.tokens) g.count g.value (g.means (shift.other n) (shift.wide extra n f)) size), refl);
  }

  -- The token before a line is no matter where some of the line was read.
  final-other : (d e : Lexeme) (ls : List Lexeme) → 0 < length ls → final d ls ≡ final e ls
  final-other d e [] h = absurd (omega (arith, h))
  final-other d e (l ∷ ls) h = refl

  pub stops-sized : (need : ℕ) (i j : Input) (before : Lexeme) → need ≤ 1 → need ≤ wanted before (counted v) → j.rest ≡ i.rest → counter v i ≡ 0 → Exists k none need P → (s : Stop) → Stops v k need P i s → Stops w m 0 Sized j s
  stops-sized need i j before one ready b reset some (stop.Expected left) s = λ e d h. goes e d (length i.rest) refl
    where
      goes : (e : left ≡ 0) (d : Lexeme) (n : ℕ) → length i.rest ≡ n → GoesOn w m Sized j (wanted (final d j.rest))
      goes e d zero f = exists-goes w m 0 Sized j d (ap length b ∙ f) (omega arith) (exists-sized need one some)
      goes e d (suc n) f =
          let last : final before i.rest ≡ final d j.rest = final-other before d i.rest (omega (arith, f)) ∙ ap (final d) (sym b) in
          subst (λ (l : Lexeme). GoesOn w m Sized j (wanted l)) last (goes-sized i j (wanted (final before i.rest)) b reset (s e before ready))
  stops-sized need i j before one ready b reset some (stop.Limit left which) s = (
    s.0,
    λ e. let p = s.1 e in record {
      there = omega (arith, p.there, ap length b);
      begins = λ d. subst (λ (ls : List Lexeme). Begins which (final d ls).terminal) (sym b) (p.begins d);
      goes_on = goes-sized i j (raised which) b reset p.goes_on;
    },
  )
  stops-sized need i j before one ready b reset some stop.NoMemory s = tt

-- ---- one step after another

-- What is wanted of the tokens after some that mean this.
abbrev pub Next : {A B : Type 0} → Meaning A → Meaning B → A → List Lexeme → ℕ → Meaning B
Next P R x xs c n ys d y = P n xs c x → R n (xs ++ ys) (c + d) y

module _ {A B : Type 0} (w : Counting) (m : Numbers) (P : Meaning A) (R : Meaning B) where
  exists-then : (need : ℕ) (e : Exists m none need P) → Exists m none 0 (Next P R e.value e.tokens e.count) → Exists m none need R
  exists-then need e f =
      record {
        tokens = e.tokens ++ f.tokens;
        count = e.count + f.count;
        value = f.value;
        few = omega (arith, e.few, f.few);
        means = λ n h. f.means n h (e.means n h);
      }

  pub goes-then : (i : Input) → ((x : A) (xs : List Lexeme) (c : ℕ) → Exists m none 0 (Next P R x xs c)) → (extra : LimitKind → ℕ) → GoesOn w m P i extra → GoesOn w m R i extra
  goes-then i rest extra g =
      let f = rest g.value (i.rest ++ g.tokens) g.count in
      record {
        tokens = g.tokens ++ f.tokens;
        count = g.count + f.count;
        value = f.value;
        few = λ few. omega (arith, g.few few, f.few);
        means = λ n h. subst (λ (ls : List Lexeme). R n ls (g.count + f.count) f.value) (append_assoc i.rest g.tokens f.tokens) (f.means n (fits m extra n h) (g.means n h));
      }

  says-then : (i : Input) (need : ℕ) (f : A → Parser B) (o : Parsed A) → Says w m need P i o → ((x : A) (xs : List Lexeme) (c : ℕ) → Recognizes w m 0 Any (f x) (Next P R x xs c)) → Says w m need R i (and_then o f)
  says-then i need f (Ok read) t rest =
      let c = t.counts in
      says-led w w m m (Next P R read.0 t.taken t.count) R (unchanged m) t.taken (λ d. t.count + d) (λ n ls d y h next. next (t.means n h)) read.1 i 0 need t.splits
      (λ l d k. counts-both w m i read.1 l t.count d c k) (λ d extra k few. omega (arith, c.more, k (c.few few))) (λ d k. omega arith) (f read.0 read.1) ((rest read.0 t.taken t.count).speaks.says read.1 tt)
  says-then i need f (Err stopped) s rest = stops-as w m need P R i (goes-then i (λ x xs c. (rest x xs c).some)) stopped s

pub then-says : {A B : Type 0} {w : Counting} {m : Numbers} {need : ℕ} {Seen : Input → Type 0} {p : Parser A} {f : A → Parser B} {P : Meaning A} {R : Meaning B} → Speaks w m need Seen p P →
    ((x : A) (xs : List Lexeme) (c : ℕ) → Recognizes w m 0 Any (f x) (λ n ys d y. P n xs c x → R n (xs ++ ys) (c + d) y)) → Speaks w m need Seen (p >>= f) R
then-says {A} {B} {w} {m} {need} {Seen} {p} {f} {P} {R} first rest = record { says = λ i h. says-then w m P R i need f (p i) (first.says i h) rest }

pub then-line : {A B : Type 0} {w : Counting} {m : Numbers} {need : ℕ} {Seen : Input → Type 0} {p : Parser A} {f : A → Parser B} {P : Meaning A} {R : Meaning B} → Recognizes w m need Seen p P →
    ((x : A) (xs : List Lexeme) (c : ℕ) → Recognizes w m 0 Any (f x) (λ n ys d y. P n xs c x → R n (xs ++ ys) (c + d) y)) → Recognizes w m need Seen (p >>= f) R
then-line {A} {B} {w} {m} {need} {Seen} {p} {f} {P} {R} first rest =
    let e = first.some in
    record {
      some = exists-then w m P R need e ((rest e.value e.tokens e.count).some);
      speaks = then-says first.speaks rest;
    }

-- The last line of several, and what is made of it.
module _ {A B : Type 0} (w : Counting) (m : Numbers) (P : Meaning A) (R : Meaning B) (make : A → B) (means : (n : Numbers) (ls : List Lexeme) (c : ℕ) (x : A) → P n ls c x → R n ls c (make x)) where
  made : (n : Numbers) (xs : List Lexeme) (c : ℕ) (x : A) → P n xs c x → R n (xs ++ []) (c + 0) (make x)
  made n xs c x is = let e : c + 0 ≡ c = omega arith in subst (λ (ls : List Lexeme). R n ls (c + 0) (make x)) (sym (append-nil xs)) (subst (λ (d : ℕ). R n xs d (make x)) (sym e) (means n xs c x is))

  pub says-last : (i : Input) (need : ℕ) (o : Parsed A) → Says w m need P i o → Says w m need R i (and_then o (λ x. pure (make x)))
  says-last i need (Ok read) t = record { taken = t.taken; count = t.count; splits = t.splits; counts = t.counts; means = λ n f. means n t.taken t.count read.0 (t.means n f) }
  says-last i need (Err stopped) s = stops-as w m need P R i (goes-then w m P R i (λ x xs c. record { tokens = []; count = 0; value = make x; few = omega arith; means = λ n f is. made n xs c x is })) stopped s

pub last-says : {A B : Type 0} {w : Counting} {m : Numbers} {need : ℕ} {Seen : Input → Type 0} {p : Parser A} {P : Meaning A} {R : Meaning B} (make : A → B) → Speaks w m need Seen p P →
    ((n : Numbers) (ls : List Lexeme) (c : ℕ) (x : A) → P n ls c x → R n ls c (make x)) → Speaks w m need Seen (p >>= (λ x. pure (make x))) R
last-says {A} {B} {w} {m} {need} {Seen} {p} {P} {R} make first means = record { says = λ i h. says-last w m P R make means i need (p i) (first.says i h) }

pub last-line : {A B : Type 0} {w : Counting} {m : Numbers} {need : ℕ} {Seen : Input → Type 0} {p : Parser A} {P : Meaning A} {R : Meaning B} (make : A → B) → Recognizes w m need Seen p P →
    ((n : Numbers) (ls : List Lexeme) (c : ℕ) (x : A) → P n ls c x → R n ls c (make x)) → Recognizes w m need Seen (p >>= (λ x. pure (make x))) R
last-line {A} {B} {w} {m} {need} {Seen} {p} {P} {R} make first means =
    let e = first.some in
    record {
      some = record { tokens = e.tokens; count = e.count; value = make e.value; few = e.few; means = λ n f. means n e.tokens e.count e.value (e.means n f) };
      speaks = last-says make first.speaks means;
    }

-- ---- a token, and what follows it

module _ {A B : Type 0} (w : Counting) (m : Numbers) (Is : A → Lexeme → Type 0) (R : Meaning B) where
  abbrev AfterToken : A → Lexeme → Meaning B
  AfterToken x l n ys c y = Is x l → R n (l ∷ ys) c y

  step-then : (need other : ℕ) (i j : Input) (x : A) (t : Step (Is x) i j) (o : Parsed B) → need ≤ wanted t.lexeme (counted w) → Says w m need (AfterToken x t.lexeme) j o → Says w m other R i o
  step-then need other i j x t o ready s =
      let c = same-counter w i j t.statements t.operands in
      says-led w w m m (AfterToken x t.lexeme) R (unchanged m) (t.lexeme ∷ []) same (λ n ls d y h next. next t.is) j i need other t.splits
      (λ l c k. counts-step w m i j l c t.statements t.operands k) (λ d extra k few. omega (arith, c, k (omega (arith, c, few)))) (λ d k. ready) o s

  tells-then : (i : Input) (f : A → Parser B) (o : Parsed A) → Tells Is i o → ((x : A) (l : Lexeme) → Recognizes w m 0 Any (f x) (AfterToken x l)) → Exists m none 0 R → Says w m 0 R i (and_then o f)
  tells-then i f (Ok read) t rest some = step-then 0 0 i read.1 read.0 t (f read.0 read.1) (omega arith) ((rest read.0 t.lexeme).speaks.says read.1 tt)
  tells-then i f (Err (stop.Expected left)) t rest some = λ e d h. exists-goes w m 0 R i d (sym t ∙ e) h some
  tells-then i f (Err (stop.Limit left which)) t rest some = absurd t
  tells-then i f (Err stop.NoMemory) t rest some = tt

pub token-line : {A B : Type 0} {w : Counting} {m : Numbers} {Seen : Input → Type 0} {p : Parser A} {f : A → Parser B} {Is : A → Lexeme → Type 0} {R : Meaning B} → Token Seen p Is →
    ((x : A) (l : Lexeme) → Recognizes w m 0 Any (f x) (λ n ys c y. Is x l → R n (l ∷ ys) c y)) → Recognizes w m 0 Seen (p >>= f) R
token-line {A} {B} {w} {m} {Seen} {p} {f} {Is} {R} first rest =
    let e = (rest first.value first.lexeme).some in
    let some : Exists m none 0 R = record { tokens = first.lexeme ∷ e.tokens; count = e.count; value = e.value; few = e.few; means = λ n h. e.means n h first.is } in
    record { some = some; speaks = record { says = λ i h. tells-then w m Is R i f (p i) (first.says i h) rest some } }

-- A token that was seen. The line after it may begin with an operand, if the token wants one.
pub seen-says : {B : Type 0} {w : Counting} {m : Numbers} {need other : ℕ} {Seen : Input → Type 0} {p : Parser B} {Is : Unit {0} → Lexeme → Type 0} {R : Meaning B} → Token Seen bump Is → ((l : Lexeme) → Is tt l → need ≤ wanted l (counted w)) →
    ((l : Lexeme) → Recognizes w m need Any p (λ n ys c y. Is tt l → R n (l ∷ ys) c y)) → Speaks w m other Seen (bump >> p) R
seen-says {B} {w} {m} {need} {other} {Seen} {p} {Is} {R} first ready rest = record {
  says = λ i h.
      let t = (sees-one first i h).step in
      step-then w m Is R need other i (passed i) tt t (p (passed i)) (ready t.lexeme t.is) ((rest t.lexeme).speaks.says (passed i) tt);
}

-- A token alone.
says-alone : {A : Type 0} (w : Counting) (m : Numbers) (Is : A → Lexeme → Type 0) (R : Meaning A) (i : Input) (o : Parsed A) → Tells Is i o → ((x : A) (l : Lexeme) (n : Numbers) → Is x l → R n (l ∷ []) 0 x) → Exists m none 0 R → Says w m 0 R i o
says-alone w m Is R i (Ok read) t each some = record {
  taken = t.lexeme ∷ [];
  count = 0;
  splits = t.splits;
  counts = counts-step w m i read.1 read.1 0 t.statements t.operands (counts-none w m read.1);
  means = λ n f. each read.0 t.lexeme n t.is;
}
says-alone w m Is R i (Err (stop.Expected left)) t each some = λ e d h. exists-goes w m 0 R i d (sym t ∙ e) h some
says-alone w m Is R i (Err (stop.Limit left which)) t each some = absurd t
says-alone w m Is R i (Err stop.NoMemory) t each some = tt

pub alone-line : {A : Type 0} {w : Counting} {m : Numbers} {Seen : Input → Type 0} {p : Parser A} {Is : A → Lexeme → Type 0} {R : Meaning A} → Token Seen p Is →
    ((x : A) (l : Lexeme) (n : Numbers) → Is x l → R n (l ∷ []) 0 x) → Recognizes w m 0 Seen p R
alone-line {A} {w} {m} {Seen} {p} {Is} {R} t each =
    let some : Exists m none 0 R = record { tokens = t.lexeme ∷ []; count = 0; value = t.value; few = omega arith; means = λ n f. each t.value t.lexeme n t.is } in
    record { some = some; speaks = record { says = λ i h. says-alone w m Is R i (p i) (t.says i h) each some } }

-- ---- ends, refusals and choices

pub pure-line : {A : Type 0} {w : Counting} {m : Numbers} {need : ℕ} {Seen : Input → Type 0} {R : Meaning A} (x : A) → ((n : Numbers) → Fits m n → R n [] 0 x) → Recognizes w m need Seen (pure x) R
pure-line {A} {w} {m} {need} {Seen} {R} x is = record {
  some = record { tokens = []; count = 0; value = x; few = omega arith; means = is };
  speaks = record { says = λ i h. record { taken = []; count = 0; splits = refl; counts = counts-none w m i; means = is } };
}

pub refuse-line : {A : Type 0} {w : Counting} {m : Numbers} {need : ℕ} {Seen : Input → Type 0} {R : Meaning A} → Exists m none need R → Recognizes w m need Seen (refuse {A = A}) R
refuse-line {A} {w} {m} {need} {Seen} {R} some = record { some = some; speaks = record { says = λ i h e d k. exists-goes w m need R i d e k some } }

-- The next token begins a thing of a kind, and something of the line.
pub record Starts {A : Type 0} (w : Counting) (m : Numbers) (R : Meaning A) (i : Input) (which : LimitKind) : Type 0 where
  pub token : Lexeme
  pub rest : List Lexeme
  pub splits : i.rest ≡ token ∷ rest
  pub begins : Begins which token.terminal
  pub tokens : List Lexeme
  pub count : ℕ
  pub value : A
  pub few : counter w i ≤ m.most (counted w) → counter w i + count ≤ m.most (counted w) + wanted token (counted w)
  pub means : (n : Numbers) → Wider m (raised which) n → R n (token ∷ tokens) count value

-- A token alone begins both.
pub starts-one : {A B : Type 0} {w : Counting} {m : Numbers} {R : Meaning B} {Is : A → Lexeme → Type 0} {i : Input} (which : LimitKind) → Sees Is i → ((x : A) (l : Lexeme) → Is x l → Begins which l.terminal) → (make : A → Lexeme → B) →
    ((x : A) (l : Lexeme) (n : Numbers) → Is x l → R n (l ∷ []) 0 (make x l)) → Starts w m R i which
starts-one {A} {B} {w} {m} {R} {Is} {i} which sees begins make means =
    let t = sees.step in
    record {
      token = t.lexeme;
      rest = (passed i).rest;
      splits = t.splits;
      begins = begins sees.value t.lexeme t.is;
      tokens = [];
      count = 0;
      value = make sees.value t.lexeme;
      few = λ few. omega (arith, few);
      means = λ n f. means sees.value t.lexeme n t.is;
    }

-- A line that takes a token and then stops at the end begins with it.
pub starts-alone : {A B : Type 0} {w : Counting} {m : Numbers} {p : Parser B} {R : Meaning B} {Is : A → Lexeme → Type 0} {i : Input} (which : LimitKind) → Recognizes w m 0 Any p R →
    ((x : A) (l : Lexeme) → Is x l → Begins which l.terminal) →
    ((x : A) (l : Lexeme) (st op : ℕ) → Is x l → p (record { rest = l ∷ []; statements = st; operands = op }) ≡ Err (stop.Expected 0)) → Sees Is i → Starts w m R i which
starts-alone {A} {B} {w} {m} {p} {R} {Is} {i} which line begins alone sees =
    let t = sees.step in
    let j : Input = record { rest = t.lexeme ∷ []; statements = i.statements; operands = i.operands } in
    let s : Stops w m 0 R j (stop.Expected 0) = subst (λ (o : Parsed B). Says w m 0 R j o) (alone sees.value t.lexeme i.statements i.operands t.is) (line.speaks.says j tt) in
    let g : GoesOn w m R j (wanted t.lexeme) = s refl t.lexeme (omega arith) in
    let b : Begins which t.lexeme.terminal = begins sees.value t.lexeme t.is in
    let c = same-counter w i j refl refl in
    record {
      token = t.lexeme;
      rest = (passed i).rest;
      splits = t.splits;
      begins = b;
      tokens = g.tokens;
      count = g.count;
      value = g.value;
      few = λ few. omega (arith, c, g.few (omega (arith, c, few)));
      means = λ n f. g.means n (record { wide = λ k. omega (arith, f.wide k, raised-wanted which t.lexeme b k); deep = omega (arith, f.deep); one = f.one });
    }

abbrev pub passes-at : {A : Type 0} → Counting → Numbers → ℕ → Meaning A → Input → LimitKind → Type 0
passes-at w m need R i which = Stops w m need R i (stop.Limit (length i.rest) which)

-- A token that passes a limit can stand where it does.
pub passes-by : {A : Type 0} (w : Counting) (m : Numbers) (need : ℕ) (R : Meaning A) (i : Input) (which : LimitKind) (token : Lexeme) (rest : List Lexeme) → i.rest ≡ token ∷ rest → Begins which token.terminal →
    (tokens : List Lexeme) (count : ℕ) (value : A) → (counter w i ≤ m.most (counted w) → counter w i + count ≤ m.most (counted w) + raised which (counted w)) →
    ((n : Numbers) → Wider m (raised which) n → R n (token ∷ tokens) count value) → passes-at w m need R i which
passes-by w m need R i which token rest e b tokens count value few means = (
  omega (arith, ap length e),
  λ h.
      let alone : i.rest ≡ token ∷ [] = e ∙ ap (λ (ls : List Lexeme). token ∷ ls) (length-none rest (omega (arith, ap length e, h))) in
      record {
        there = omega (arith, h);
        begins = λ d. subst (λ (ls : List Lexeme). Begins which (final d ls).terminal) (sym alone) b;
        goes_on = record { tokens = tokens; count = count; value = value; few = few; means = λ n f. subst (λ (ls : List Lexeme). R n (ls ++ tokens) count value) (sym alone) (means n f) };
      },
)

pub passes-here : {A : Type 0} (w : Counting) (m : Numbers) (need : ℕ) (R : Meaning A) (i : Input) (which : LimitKind) → Starts w m R i which → passes-at w m need R i which
passes-here w m need R i which s =
    passes-by w m need R i which s.token s.rest s.splits s.begins s.tokens s.count s.value (λ few. omega (arith, s.few few, raised-wanted which s.token s.begins (counted w))) s.means

pub full-line : {A : Type 0} {w : Counting} {m : Numbers} {Seen : Input → Type 0} {R : Meaning A} (which : LimitKind) → ((i : Input) → Seen i → Starts w m R i which) → Speaks w m 0 Seen (full {A = A} which) R
full-line {A} {w} {m} {Seen} {R} which first = record { says = λ i h. passes-here w m 0 R i which (first i h) }

pub if-either : {A : Type 0} (w : Counting) (m : Numbers) (need : ℕ) (R : Meaning A) (i : Input) (b : Bool) (o p : Parsed A) → (b ≡ true → Says w m need R i o) → (b ≡ false → Says w m need R i p) → Says w m need R i (if b then o else p)
if-either w m need R i true o p a b = a refl
if-either w m need R i false o p a b = b refl

-- By a test of the next token.
pub either-says : {A : Type 0} {w : Counting} {m : Numbers} {need : ℕ} {Seen : Input → Type 0} {test : Input → Bool} {p q : Parser A} {R : Meaning A} →
    Speaks w m need (λ i. test i ≡ true) p R → Speaks w m need (λ i. Seen i × (test i ≡ false)) q R → Speaks w m need Seen (choose test p q) R
either-says {A} {w} {m} {need} {Seen} {test} {p} {q} {R} first second = record { says = λ i h. if-either w m need R i (test i) (p i) (q i) (first.says i) (λ e. second.says i (h, e)) }

pub choose-says : {A : Type 0} {w : Counting} {m : Numbers} {need : ℕ} {Seen : Input → Type 0} {test : Input → Bool} {p q : Parser A} {R : Meaning A} →
    Speaks w m need (λ i. test i ≡ true) p R → Recognizes w m need Seen q R → Recognizes w m need Seen (choose test p q) R
choose-says {A} {w} {m} {need} {Seen} {test} {p} {q} {R} first second = record { some = second.some; speaks = record { says = λ i h. if-either w m need R i (test i) (p i) (q i) (first.says i) (λ e. second.speaks.says i h) } }

pub choose-line : {A : Type 0} {w : Counting} {m : Numbers} {need : ℕ} {Seen : Input → Type 0} {test : Input → Bool} {p q : Parser A} {R : Meaning A} →
    Recognizes w m need (λ i. test i ≡ true) p R → Recognizes w m need Seen q R → Recognizes w m need Seen (choose test p q) R
choose-line {A} {w} {m} {need} {Seen} {test} {p} {q} {R} first second = choose-says first.speaks second

-- A test was no matter.
pub seen-line : {A : Type 0} {w : Counting} {m : Numbers} {need : ℕ} {Seen : Input → Type 0} {p : Parser A} {R : Meaning A} → Recognizes w m need Any p R → Recognizes w m need Seen p R
seen-line {A} {w} {m} {need} {Seen} {p} {R} r = record { some = r.some; speaks = record { says = λ i h. r.speaks.says i tt } }

-- By the answer to a question.
pub view-line : {A B : Type 0} {w : Counting} {m : Numbers} {need : ℕ} {Seen : Input → Type 0} {R : Meaning A} (view : Input → B) (f : B → Parser A) → Exists m none need R →
    ((b : B) (i : Input) → view i ≡ b → Says w m need R i (f b i)) → Recognizes w m need Seen (λ i. f (view i) i) R
view-line {A} {B} {w} {m} {need} {Seen} {R} view f some each = record { some = some; speaks = record { says = λ i h. each (view i) i refl } }

-- By turns, whatever their number.
pub turns-line : {A : Type 0} {w : Counting} {m : Numbers} {need : ℕ} {Seen : Input → Type 0} {R : Meaning A} (f : ℕ → Parser A) → ((k : ℕ) → Recognizes w m need Any (f k) R) → Recognizes w m need Seen (λ i. f (suc (length i.rest)) i) R
turns-line {A} {w} {m} {need} {Seen} {R} f each = record { some = (each 0).some; speaks = record { says = λ i h. (each (suc (length i.rest))).speaks.says i tt } }

-- ---- the place of the next token

-- The first of these lexemes, if there is one, stands at this place.
abbrev pub StandsAt : ℕ → List Lexeme → Type 0
StandsAt at ls = (l : Lexeme) (rest : List Lexeme) → ls ≡ l ∷ rest → at ≡ l.at

place-first : (i : Input) (ls rest : List Lexeme) → i.rest ≡ ls ++ rest → StandsAt (place i) ls
unfolding place
place-first i ls rest e l more f = ap place_of (e ∙ ap (λ (m : List Lexeme). m ++ rest) f)

module _ {A : Type 0} (w : Counting) (m : Numbers) (need : ℕ) (R : Meaning A) where
  abbrev Placed : ℕ → Meaning A
  Placed at n ls c x = StandsAt at ls → R n ls c x

  place-of-all : (ls more : List Lexeme) → 0 < length ls → StandsAt (place_of ls) (ls ++ more)
  place-of-all [] more h = absurd (omega (arith, h))
  place-of-all (l ∷ ls) more h = λ other rest e. ap place_of e

  goes-placed : (i : Input) (extra : LimitKind → ℕ) → 0 < length i.rest → GoesOn w m (Placed (place i)) i extra → GoesOn w m R i extra
  unfolding place
  goes-placed i extra h g = record { tokens = g.tokens; count = g.count; value = g.value; few = g.few; means = λ n f. g.means n f (place-of-all i.rest g.tokens h) }

  says-placed : (i : Input) (o : Parsed A) → Says w m need (Placed (place i)) i o → Exists m none need R → Says w m need R i o
  says-placed i (Ok read) t some = record { taken = t.taken; count = t.count; splits = t.splits; counts = t.counts; means = λ n h. t.means n h (place-first i t.taken read.1.rest t.splits) }
  says-placed i (Err (stop.Expected left)) s some = λ e d h. by-length e d h (length i.rest) refl
    where
      by-length : (e : left ≡ 0) (d : Lexeme) → need ≤ wanted d (counted w) → (n : ℕ) → length i.rest ≡ n → GoesOn w m R i (wanted (final d i.rest))
      by-length e d h zero f = exists-goes w m need R i d f h some
      by-length e d h (suc n) f = goes-placed i (wanted (final d i.rest)) (omega (arith, f)) (s e d h)
  says-placed i (Err (stop.Limit left which)) s some = (s.0, λ e. let p = s.1 e in record { there = p.there; begins = p.begins; goes_on = goes-placed i (raised which) p.there p.goes_on })
  says-placed i (Err stop.NoMemory) s some = tt

pub here-says : {A : Type 0} {w : Counting} {m : Numbers} {need : ℕ} {Seen : Input → Type 0} {f : ℕ → Parser A} {R : Meaning A} → Exists m none need R →
    ((at : ℕ) → Speaks w m need Seen (f at) (λ n ls c x. StandsAt at ls → R n ls c x)) → Speaks w m need Seen (here >>= f) R
here-says {A} {w} {m} {need} {Seen} {f} {R} some each = record { says = λ i h. says-placed w m need R i (f (place i) i) ((each (place i)).says i h) some }

pub here-line : {A : Type 0} {w : Counting} {m : Numbers} {need : ℕ} {Seen : Input → Type 0} {f : ℕ → Parser A} {R : Meaning A} → Exists m none need R →
    ((at : ℕ) → Recognizes w m need Seen (f at) (λ n ls c x. StandsAt at ls → R n ls c x)) → Recognizes w m need Seen (here >>= f) R
here-line {A} {w} {m} {need} {Seen} {f} {R} some each = record { some = some; speaks = here-says some (λ at. (each at).speaks) }

-- ---- what is counted

-- A level is opened by the next token, and what follows stands in it.
pub opened-says : {B : Type 0} {w : Counting} {m : Numbers} {need other : ℕ} {Seen : Input → Type 0} {p : Parser B} {Is : Unit {0} → Lexeme → Type 0} {R : Meaning B} (room : ℕ) → Token Seen bump Is →
    ((l : Lexeme) → Is tt l → Begins limit.Depth l.terminal) → ((l : Lexeme) → Is tt l → need ≤ wanted l (counted w)) →
    ((l : Lexeme) → Exists m (raised limit.Depth) need (λ n ys c y. Is tt l → R n (l ∷ ys) c y)) →
    (0 < room → (l : Lexeme) → Recognizes w m need Any p (λ n ys c y. Is tt l → R n (l ∷ ys) c y)) → Speaks w m other Seen (opening room >> p) R
unfolding opening
opened-says {B} {w} {m} {need} {other} {Seen} {p} {Is} {R} zero first begins ready some rest = record {
  says = λ i h.
      let t = (sees-one first i h).step in
      let e = some t.lexeme in
      passes-by w m other R i limit.Depth t.lexeme (passed i).rest t.splits (begins t.lexeme t.is) e.tokens e.count e.value
      (λ few. omega (arith, few, e.few, ready t.lexeme t.is, raised-wanted limit.Depth t.lexeme (begins t.lexeme t.is) (counted w))) (λ n f. e.means n f t.is);
}
opened-says {B} {w} {m} {need} {other} {Seen} {p} {Is} {R} (suc room) first begins ready some rest = seen-says first ready (rest (omega arith))

-- What was counted before a line counts too.
counts-one : (w : Counting) (m : Numbers) (i j k : Input) (c : ℕ) → counter w j ≡ counter w i + 1 → still w j ≡ still w i → counter w i < m.most (counted w) → Counts w m j k c → Counts w m i k (suc c)
counts-one w m i j k c e s few q = record { more = omega (arith, q.more, e); few = λ h. q.few (omega (arith, few, e)); same = q.same ∙ s }

says-one : {A : Type 0} (w : Counting) (m : Numbers) (need : ℕ) (R : Meaning A) (i j : Input) (o : Parsed A) → i.rest ≡ j.rest → counter w j ≡ counter w i + 1 → still w j ≡ still w i → counter w i < m.most (counted w) →
    Says w m need (λ n ls c x. R n ls (suc c) x) j o → Says w m need R i o
says-one w m need R i j o r e s less t = says-led w w m m (λ n ls c x. R n ls (suc c) x) R (unchanged m) [] suc (λ n ls c x h is. is) j i need need r (λ l c k. counts-one w m i j l c e s less k)
    (λ c extra k few. omega (arith, e, k (omega (arith, e, less)))) (λ d h. h) o t

pub exists-one : {A : Type 0} (m : Numbers) (need : ℕ) (R : Meaning A) → Exists m none need (λ n ls c x. R n ls (suc c) x) → Exists m none (suc need) R
exists-one m need R g = record { tokens = g.tokens; count = suc g.count; value = g.value; few = omega (arith, g.few); means = g.means }

abbrev pub begun : Bool → Input → ℕ → LimitKind → Parsed (Unit {0})
begun b i left which = if b then Ok (tt, i) else Err (stop.Limit left which)

-- A thing is counted that is one too many, and something goes on with it.
passes-counted : {A : Type 0} (w : Counting) (m : Numbers) (need : ℕ) (R : Meaning A) (i : Input) → Starts w m (λ n ls c x. R n ls (suc c) x) i (counted w) → passes-at w m need R i (counted w)
passes-counted w m need R i s =
    passes-by w m need R i (counted w) s.token s.rest s.splits s.begins s.tokens (suc s.count) s.value
    (λ few. omega (arith, s.few few, wanted-none (counted w) s.token s.begins, raised-self (counted w))) s.means

begun-says : {A : Type 0} (w : Counting) (m : Numbers) (need : ℕ) (R : Meaning A) (i j : Input) (p : Parser A) (b : Bool) → (b ≡ true → Says w m need R i (p j)) → Starts w m (λ n ls c x. R n ls (suc c) x) i (counted w) →
    Says w m need R i (and_then (begun b j (length i.rest) (counted w)) (λ u. p))
begun-says w m need R i j p true f first = f refl
begun-says w m need R i j p false f first = passes-counted w m need R i first

-- Where nothing is wanted, nothing has to be.
says-more : {A : Type 0} (w : Counting) (m : Numbers) (need : ℕ) (R : Meaning A) (i : Input) (o : Parsed A) → Says w m 0 R i o → Says w m need R i o
says-more w m need R i (Ok read) t = t
says-more w m need R i (Err (stop.Expected left)) s = λ e d h. s e d (omega arith)
says-more w m need R i (Err (stop.Limit left which)) s = s
says-more w m need R i (Err stop.NoMemory) s = tt

-- An operand is counted, and then read.
pub operand-line : {A : Type 0} {m : Numbers} {Seen : Input → Type 0} {p : Parser A} {R : Meaning A} → ((i : Input) → Seen i → Starts Operands m (λ n ls c x. R n ls (suc c) x) i limit.Operands) →
    Recognizes Operands m 0 Any p (λ n ls c x. R n ls (suc c) x) → Recognizes Operands m 1 Seen (one_operand (m.most limit.Operands) >> p) R
unfolding one_operand
operand-line {A} {m} {Seen} {p} {R} first r = record {
  some = exists-one m 0 R r.some;
  speaks = record {
    says = λ i h. let j : Input = record i { operands = i.operands + 1 } in
        begun-says Operands m 1 R i j p (nat_lt i.operands (m.most limit.Operands))
        (λ e. says-more Operands m 1 R i (p j) (says-one Operands m 0 R i j (p j) refl refl refl (grind (arith, nat_tests)) (r.speaks.says j tt))) (first i h);
  };
}

-- A statement is counted, and then read.
pub statement-says : {A : Type 0} {m : Numbers} {Seen Then : Input → Type 0} {p : Parser A} {R : Meaning A} → ((i : Input) → Seen i → Starts Statements m (λ n ls c x. R n ls (suc c) x) i limit.Statements) →
    ((i : Input) → Seen i → Then (record i { statements = i.statements + 1 })) → Speaks Statements m 0 Then p (λ n ls c x. R n ls (suc c) x) → Speaks Statements m 0 Seen (one_statement (m.most limit.Statements) >> p) R
unfolding one_statement
statement-says {A} {m} {Seen} {Then} {p} {R} first kept r = record {
  says = λ i h.
      let j : Input = record i { statements = i.statements + 1 } in
      begun-says Statements m 0 R i j p (nat_lt i.statements (m.most limit.Statements)) (λ e. says-one Statements m 0 R i j (p j) refl refl refl (grind (arith, nat_tests)) (r.says j (kept i h))) (first i h);
}

-- ---- lists

-- Items after those that were found, and no more in all than may stand.
pub record Listed {A : Type 0} (Are : List Lexeme → List A → Type 0) (most : ℕ) (found : List A) (ls : List Lexeme) (all : List A) : Type 0 where
  pub items : List A
  pub are : all ≡ found ++ items
  pub means : Are ls items
  pub few : length all ≤ most

module _ {A : Type 0} (m : Numbers) (which : LimitKind) (begins : Input → Bool) (item : Parser A) (Item : Numbers → List Lexeme → A → Type 0)
    (each : Recognizes Nothing m 0 Any item (λ n ls c x. Item n ls x)) (first : (i : Input) → begins i ≡ true → Starts Nothing m (λ n ls c x. Item n ls x) i which) where
  no-more : {Seen : Input → Type 0} (Are : Numbers → List Lexeme → List A → Type 0) → ((n : Numbers) → Are n [] []) → (found : List A) → length found ≤ m.most which →
      Recognizes Nothing m 0 Seen (pure found) (λ n ls c all. Listed (Are n) (n.most which) found ls all)
  no-more Are nothing found few = pure-line found (λ n f. record { items = []; are = sym (append-nil found); means = nothing n; few = omega (arith, few, ap length (append-nil found), f.wide which) })

  abbrev Repeated : List A → Meaning (List A)
  Repeated found n ls c all = Listed (AreItems (Item n)) (n.most which) found ls all

  -- One more than may stand.
  repeated-starts : (found : List A) → length found ≤ m.most which → (i : Input) → begins i ≡ true → Starts Nothing m (Repeated found) i which
  repeated-starts found full i h =
      let s = first i h in
      record {
        token = s.token;
        rest = s.rest;
        splits = s.splits;
        begins = s.begins;
        tokens = s.tokens ++ [];
        count = 0;
        value = found ++ s.value ∷ [];
        few = λ few. omega (arith, few);
        means = λ n f. record {
          items = s.value ∷ [];
          are = refl;
          means = syntax.more (s.means n f) syntax.none;
          few = omega (arith, full, f.wide which, raised-self which, length-append found (s.value ∷ []));
        };
      }

  repeated-line : (free : ℕ) (found : List A) → free + length found ≡ m.most which → Recognizes Nothing m 0 Any (repeated which begins item free found) (Repeated found)
  unfolding repeated
  repeated-line zero found e = choose-says (full-line which (repeated-starts found (omega (arith, e)))) (no-more (λ n. AreItems (Item n)) (λ n. syntax.none) found (omega (arith, e)))
  repeated-line (suc free) found e =
      choose-line
      (then-line (seen-line each) (λ x xs c. as-line Nothing m (Repeated (found ++ x ∷ [])) _
      (λ n ls d all f l is. record { items = x ∷ l.items; are = l.are ∙ append_assoc found (x ∷ []) l.items; means = syntax.more is l.means; few = l.few })
      (repeated-line free (found ++ x ∷ []) (omega (arith, e, length-append found (x ∷ []))))))
      (no-more (λ n. AreItems (Item n)) (λ n. syntax.none) found (omega (arith, e)))

  -- {item}
  pub any-line : Recognizes Nothing m 0 Any (repeated which begins item (m.most which) []) (λ n ls c all. AreAtMost (n.most which) (Item n) ls all)
  any-line = as-line Nothing m (Repeated []) _ (λ n ls c all f l. subst (λ (a : List A). AreAtMost (n.most which) (Item n) ls a) (sym l.are) (syntax.any l.means (subst (λ (a : List A). length a ≤ n.most which) l.are l.few)))
      (repeated-line (m.most which) [] (omega arith))

  -- item {item}
  pub some-line : 1 ≤ m.most which → Recognizes Nothing m 0 Any (item >>= (λ (x : A). repeated which begins item (m.most which - 1) (x ∷ []))) (λ n ls c all. AreSome (n.most which) (Item n) ls all)
  some-line one = then-line each (λ x xs c. as-line Nothing m (Repeated (x ∷ [])) _
      (λ n ls d all f l is. subst (λ (a : List A). AreSome (n.most which) (Item n) (xs ++ ls) a) (sym l.are) (syntax.some is l.means (subst (λ (a : List A). length a ≤ n.most which) l.are l.few)))
      (repeated-line (m.most which - 1) (x ∷ []) (omega (arith, one))))

  abbrev Separated : List A → Meaning (List A)
  Separated found n ls c all = Listed (AreFurther (Item n)) (n.most which) found ls all

  -- One more than may stand, after a comma.
  one-too-many : (found : List A) → length found ≤ m.most which → (comma : Lexeme) → IsSign symbol.Comma comma → (ls : List Lexeme) (x : A) (n : Numbers) → suc (m.most which) ≤ n.most which → Item n ls x → Separated found n (comma ∷ (ls ++ [])) 0 (found ++ x ∷ [])
  one-too-many found full comma is ls x n more means = record {
    items = x ∷ [];
    are = refl;
    means = syntax.more comma is means syntax.none;
    few = omega (arith, full, more, length-append found (x ∷ []));
  }

  -- After a comma, where no more may stand.
  comma-says : (found : List A) → length found ≤ m.most which → ((l : Lexeme) → IsSign symbol.Comma l → 1 ≤ wanted l which) → (i j : Input) (t : Step (IsSign symbol.Comma) i j) (b : Bool) → begins j ≡ b →
      Says Nothing m 0 (Separated found) i (if b then Err (stop.Limit (length j.rest) which) else Err (stop.Expected (length j.rest)))
  comma-says found full wants i j t true e =
      let s = first j e in
      let R : Meaning (List A) = λ n ls c all. Separated found n (t.lexeme ∷ ls) c all in
      let at-item : passes-at Nothing m 0 R j which = passes-by Nothing m 0 R j which s.token s.rest s.splits s.begins (s.tokens ++ []) 0 (found ++ s.value ∷ []) (λ few. omega (arith, few))
      (λ n f. one-too-many found full t.lexeme t.is (s.token ∷ s.tokens) s.value n (omega (arith, f.wide which, raised-self which)) (s.means n f)) in
      stops-led Nothing Nothing m m R (Separated found) (unchanged m) (t.lexeme ∷ []) same (λ n ls c x f is. is) j i 0 0 t.splits (λ c extra k few. k few) (λ d h. h) (stop.Limit (length j.rest) which) at-item
  comma-says found full wants i j t false e = λ h d k.
      let x = each.some in
      let alone : i.rest ≡ t.lexeme ∷ [] = t.splits ∙ ap (λ (ls : List Lexeme). t.lexeme ∷ ls) (length-none j.rest h) in
      let comma : GoesOn Nothing m (Separated found) i (wanted t.lexeme) = record {
        tokens = x.tokens ++ [];
        count = 0;
        value = found ++ x.value ∷ [];
        few = λ few. omega (arith, few);
        means = λ n f. subst (λ (ls : List Lexeme). Separated found n (ls ++ (x.tokens ++ [])) 0 (found ++ x.value ∷ [])) (sym alone)
            (one-too-many found full t.lexeme t.is x.tokens x.value n (omega (arith, f.wide which, wants t.lexeme t.is)) (x.means n (fits m (wanted t.lexeme) n f)));
      } in
      subst (λ (ls : List Lexeme). GoesOn Nothing m (Separated found) i (wanted (final d ls))) (sym alone) comma

  separated-line : ((l : Lexeme) → IsSign symbol.Comma l → 1 ≤ wanted l which) → (free : ℕ) (found : List A) → free + length found ≡ m.most which → Recognizes Nothing m 0 Any (separated which begins item free found) (Separated found)
  unfolding separated
  separated-line wants zero found e =
      choose-says (record { says = λ i h. let t = (sees-one (sign-seen symbol.Comma) i h).step in comma-says found (omega (arith, e)) wants i (passed i) t (begins (passed i)) refl })
      (no-more (λ n. AreFurther (Item n)) (λ n. syntax.none) found (omega (arith, e)))
  separated-line wants (suc free) found e =
      choose-line
      (token-line (sign-seen symbol.Comma) (λ u comma. then-line each (λ x xs c. as-line Nothing m (Separated (found ++ x ∷ [])) _
      (λ n ls d all f l is comma-is. record { items = x ∷ l.items; are = l.are ∙ append_assoc found (x ∷ []) l.items; means = syntax.more comma comma-is is l.means; few = l.few })
      (separated-line wants free (found ++ x ∷ []) (omega (arith, e, length-append found (x ∷ [])))))))
      (no-more (λ n. AreFurther (Item n)) (λ n. syntax.none) found (omega (arith, e)))

  -- item {"," item}
  pub list-line : 1 ≤ m.most which → ((l : Lexeme) → IsSign symbol.Comma l → 1 ≤ wanted l which) → Recognizes Nothing m 0 Any (item >>= (λ (x : A). separated which begins item (m.most which - 1) (x ∷ []))) (λ n ls c all. AreSeparated (n.most which) (Item n) ls all)
  list-line one wants = then-line each (λ x xs c. as-line Nothing m (Separated (x ∷ [])) _
      (λ n ls d all f l is. subst (λ (a : List A). AreSeparated (n.most which) (Item n) (xs ++ ls) a) (sym l.are) (syntax.some is l.means (subst (λ (a : List A). length a ≤ n.most which) l.are l.few)))
      (separated-line wants (m.most which - 1) (x ∷ []) (omega (arith, one))))
