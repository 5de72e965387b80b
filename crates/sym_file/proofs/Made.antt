-- What is made of plain parts is the one value with these parts.
use Rattle.std.proofs.Common.{◌≡◌, ℕ, ◌<◌, ◌^◌, ℤ, Bool, true, false, arith, cond, nat_lt, List, [], ◌∷◌, map, Option, Some, None, refl, sym, ap, ◌∙◌}
use Rattle.std.proofs.lemmas.List.{length-map}
use Rattle.std.specs.Prelude.{IfOk, MatchOption, Result, Ok, Err, T, length}
use Rattle.std.specs.FinMap as finite
use Rattle.std.specs.FinMap.{empty, get, get-empty, len, len-entries, entries, entries-from_sorted, entries_sorted, from_sorted, is_sorted, same_entries_map}
use Rattle.sym_base.specs.Limits.{IsNumber, is_number}
use Rattle.sym_enum.specs.declared.label_set.LabelSet.{LabelSet}
use Rattle.sym_enum.proofs.Sets.{same_number as same_set}
use Rattle.sym_int.specs.Bounds.{AreOfLine}
use Rattle.sym_int.specs.Lines.{offset}
use Rattle.sym_int.specs.Offsets.{joined_again}
use Rattle.sym_int.specs.Points.{AreEnds}
use Rattle.sym_int.specs.declared.form.Line.{Line}
use Rattle.sym_int.proofs.CallersLemmas.{same_line}
use Rattle.sym_int.specs.declared.form.Number.{Number}
use Rattle.sym_int.specs.declared.span.Span.{Span}
use Rattle.sym_pred.specs.Facts.{Atom, FactMap, atom_cmp}
use Rattle.sym_pred.specs.Literals.{atom_of, entry_of, literal_of, literals}
use Rattle.sym_pred.specs.Places.{IsInOrder}
use Rattle.sym_pred.specs.declared.literal.Literal.{Literal}
use Rattle.sym_pred.proofs.FactsLemmas.{facts-longer, from_sorted-nil, literals-from_sorted}
use Rattle.sym_file.specs.Making.{facts_of, line_of, line_with, made, number_of, set_of, span_of}
use Rattle.sym_file.proofs.Codecs.{kept, some_is}
use Rattle.sym_file.specs.Deciding.{are_ends, are_of_line, below_decided, ends_decided, line_decided, number_decided}
use denote.Struct.Props.{props}
use mathlib.Core.HLevel.{Σ_prop_path}

made_again : {A : Type 0} (b : Bool) (make : b ≡ true → A) (x : A) → b ≡ true → ((e : b ≡ true) → make e ≡ x) → made b make ≡ Some x
made_again true make x e is = ap Some (is refl)
made_again false make x e is = absurd cc

made_takes : {A : Type 0} (b : Bool) (make : b ≡ true → A) (x : A) → made b make ≡ Some x → (e : b ≡ true) × (make e ≡ x)
made_takes true make x e = (refl, some_is (make refl) x e)
made_takes false make x e = absurd cc

pub made_none : {A : Type 0} (b : Bool) (make : b ≡ true → A) → b ≡ false → made b make ≡ None
made_none true make e = absurd cc
made_none false make e = refl

not_decided : {P : Type 0} (b : Bool) → (b ≡ true → P) → (P → ⊥) → b ≡ false
not_decided true h none = absurd (none (h refl))
not_decided false h none = refl

-- ---- sets of labels

pub set_again : (set : LabelSet) → set_of set.bits ≡ Some set
unfolding set_of
set_again set = made_again (nat_lt set.bits (2 ^ 32)) (λ e. record { bits = set.bits; below_32 = (below_decided set.bits (2 ^ 32)).0 e }) set ((below_decided set.bits (2 ^ 32)).1 set.below_32) (λ e. same_set _ set refl)

pub set_takes : (n : ℕ) (set : LabelSet) → set_of n ≡ Some set → n ≡ set.bits
unfolding set_of
set_takes n set e =
    let m = made_takes (nat_lt n (2 ^ 32)) (λ e. record { bits = n; below_32 = (below_decided n (2 ^ 32)).0 e }) set e in
    ap (λ (s : LabelSet). s.bits) m.1

pub no_set : (n : ℕ) → (n < 2 ^ 32 → ⊥) → set_of n ≡ None
unfolding set_of
no_set n none = made_none (nat_lt n (2 ^ 32)) (λ e. record { bits = n; below_32 = (below_decided n (2 ^ 32)).0 e }) (not_decided (nat_lt n (2 ^ 32)) (below_decided n (2 ^ 32)).0 none)

-- ---- spans

abbrev SpanParts : Type 0
SpanParts = (p : ℤ × ℤ) × AreEnds p.0 p.1

abbrev of_ends : SpanParts → Span
of_ends p = record { lo = p.0.0; hi = p.0.1; lo_in = p.1.0; ordered = p.1.1; hi_in = p.1.2 }

ends_prop : (p : ℤ × ℤ) → IsProp (AreEnds p.0 p.1)
ends_prop p = hlevel props

same_span : (s t : Span) → s.lo ≡ t.lo → s.hi ≡ t.hi → s ≡ t
same_span s t e f =
    let x : SpanParts = ((s.lo, s.hi), (s.lo_in, s.ordered, s.hi_in)) in
    let y : SpanParts = ((t.lo, t.hi), (t.lo_in, t.ordered, t.hi_in)) in
    let parts : x.0 ≡ y.0 = λ i. (e i, f i) in
    let p : x ≡ y = Σ_prop_path ends_prop parts in
    ap of_ends p

abbrev span_made : (lo hi : ℤ) → are_ends lo hi ≡ true → Span
span_made lo hi e = record { lo = lo; hi = hi; lo_in = ((ends_decided lo hi).0 e).0; ordered = ((ends_decided lo hi).0 e).1; hi_in = ((ends_decided lo hi).0 e).2 }

pub span_again : (s : Span) → span_of s.lo s.hi ≡ Some s
unfolding span_of
span_again s = made_again (are_ends s.lo s.hi) (span_made s.lo s.hi) s ((ends_decided s.lo s.hi).1 (s.lo_in, s.ordered, s.hi_in)) (λ e. same_span (span_made s.lo s.hi e) s refl refl)

pub span_takes : (lo hi : ℤ) (s : Span) → span_of lo hi ≡ Some s → (lo ≡ s.lo) × (hi ≡ s.hi)
unfolding span_of
span_takes lo hi s e =
    let m = made_takes (are_ends lo hi) (span_made lo hi) s e in
    (ap (λ (t : Span). t.lo) m.1, ap (λ (t : Span). t.hi) m.1)

pub no_span : (lo hi : ℤ) → (AreEnds lo hi → ⊥) → span_of lo hi ≡ None
unfolding span_of
no_span lo hi none = made_none (are_ends lo hi) (span_made lo hi) (not_decided (are_ends lo hi) (ends_decided lo hi).0 none)

-- ---- constants

number_prop : (x : ℤ) → IsProp (IsNumber x)
number_prop x = hlevel props

abbrev of_value : (x : ℤ) × IsNumber x → Number
of_value p = record { value = p.0; value_in = p.1 }

same_constant : (m n : Number) → m.value ≡ n.value → m ≡ n
same_constant m n e =
    let x : (v : ℤ) × IsNumber v = (m.value, m.value_in) in
    let y : (v : ℤ) × IsNumber v = (n.value, n.value_in) in
    let p : x ≡ y = Σ_prop_path number_prop e in
    ap of_value p

abbrev number_made : (x : ℤ) → is_number x ≡ true → Number
number_made x e = record { value = x; value_in = (number_decided x).0 e }

pub number_again : (n : Number) → number_of n.value ≡ Some n
unfolding number_of
number_again n = made_again (is_number n.value) (number_made n.value) n ((number_decided n.value).1 n.value_in) (λ e. same_constant (number_made n.value e) n refl)

pub number_takes : (x : ℤ) (n : Number) → number_of x ≡ Some n → x ≡ n.value
unfolding number_of
number_takes x n e = ap (λ (m : Number). m.value) (made_takes (is_number x) (number_made x) n e).1

pub no_number : (x : ℤ) → (IsNumber x → ⊥) → number_of x ≡ None
unfolding number_of
no_number x none = made_none (is_number x) (number_made x) (not_decided (is_number x) (number_decided x).0 none)

-- ---- lines

abbrev line_made : (c : ℕ) (a b : ℤ) → are_of_line a b ≡ true → Line
line_made c a b e = line_with c a b ((line_decided a b).0 e)

pub line_again : (l : Line) → line_of l.cell l.a (offset l) ≡ Some l
unfolding line_of
line_again l =
    made_again (are_of_line l.a (offset l)) (line_made l.cell l.a (offset l)) l ((line_decided l.a (offset l)).1 (l.rises_or_falls, l.a_in, l.b_in))
    (λ e. same_line (line_made l.cell l.a (offset l) e) l refl refl (joined_again (offset l)))

pub line_takes : (c : ℕ) (a b : ℤ) (l : Line) → line_of c a b ≡ Some l → (c ≡ l.cell) × (a ≡ l.a) × (b ≡ offset l)
unfolding line_of
line_takes c a b l e =
    let m = made_takes (are_of_line a b) (line_made c a b) l e in
    (ap (λ (k : Line). k.cell) m.1, ap (λ (k : Line). k.a) m.1, sym (joined_again b) ∙ ap offset m.1)

pub no_line : (c : ℕ) (a b : ℤ) → (AreOfLine a b → ⊥) → line_of c a b ≡ None
unfolding line_of
no_line c a b none = made_none (are_of_line a b) (line_made c a b) (not_decided (are_of_line a b) (line_decided a b).0 none)

-- ---- facts

from_true : (b : Bool) → b ≡ true → T b
from_true true e = tt
from_true false e = absurd cc

to_true : (b : Bool) → T b → b ≡ true
to_true true h = refl
to_true false h = absurd h

entry_of-literals : (es : List (Atom × Bool)) → map entry_of (map literal_of es) ≡ es
entry_of-literals [] = refl
entry_of-literals (e ∷ es) = ap (λ rest. e ∷ rest) (entry_of-literals es)

-- There are as many literals as atoms.
pub count_is : (f : FactMap) → len f ≡ length (literals f)
count_is f = len-entries f ∙ sym (length-map (entries f) literal_of)

pub facts_again : (f : FactMap) → facts_of (literals f) ≡ Some f
unfolding facts_of
facts_again f =
    let listed : map entry_of (literals f) ≡ entries f = entry_of-literals (entries f) in
    let sorted : is_sorted atom_cmp (map entry_of (literals f)) ≡ true = ap (λ (es : List (Atom × Bool)). is_sorted atom_cmp es) listed ∙ to_true (is_sorted atom_cmp (entries f)) (entries_sorted f) in
    let same : from_sorted {R = atom_cmp} (map entry_of (literals f)) ≡ f =
    ap (λ (es : List (Atom × Bool)). from_sorted {R = atom_cmp} es) listed
    ∙ same_entries_map (from_sorted {R = atom_cmp} (entries f)) f (entries-from_sorted atom_cmp (entries f) (entries_sorted f)) in
    ap (λ (b : Bool). cond b (Some (from_sorted {R = atom_cmp} (map entry_of (literals f)))) None) sorted ∙ ap Some same

pub facts_takes : (ls : List Literal) (f : FactMap) → facts_of ls ≡ Some f → ls ≡ literals f
unfolding facts_of
facts_takes ls f e =
    let k = kept (is_sorted atom_cmp (map entry_of ls)) (Some (from_sorted {R = atom_cmp} (map entry_of ls))) f e in
    sym (literals-from_sorted ls (from_true (is_sorted atom_cmp (map entry_of ls)) k.0))
    ∙ ap literals (some_is (from_sorted {R = atom_cmp} (map entry_of ls)) f k.1)

pub no_facts : (ls : List Literal) → ¬ (IsInOrder ls) → facts_of ls ≡ None
unfolding facts_of
no_facts ls none = ap (λ (b : Bool). cond b (Some (from_sorted {R = atom_cmp} (map entry_of ls))) None) (not_decided (is_sorted atom_cmp (map entry_of ls)) (from_true (is_sorted atom_cmp (map entry_of ls))) none)

-- ---- what the constructors of the types answer
pub span_found : (lo hi : ℤ) (r : Option Span) → MatchOption r (AreEnds lo hi → ⊥) (λ span. (span.lo ≡ lo) × (span.hi ≡ hi)) → r ≡ span_of lo hi
span_found lo hi None h = sym (no_span lo hi h)
span_found lo hi (Some s) h = sym (ap (λ (x : ℤ). span_of x hi) (sym h.0) ∙ ap (span_of s.lo) (sym h.1) ∙ span_again s)

pub number_found : (x : ℤ) (r : Option Number) → MatchOption r (IsNumber x → ⊥) (λ n. n.value ≡ x) → r ≡ number_of x
number_found x None h = sym (no_number x h)
number_found x (Some n) h = sym (ap number_of (sym h) ∙ number_again n)

pub line_found : (c : ℕ) (a b : ℤ) (r : Option Line) → MatchOption r (AreOfLine a b → ⊥) (λ l. (l.cell ≡ c) × (l.a ≡ a) × (offset l ≡ b)) → r ≡ line_of c a b
line_found c a b None h = sym (no_line c a b h)
line_found c a b (Some l) h =
    sym (ap (λ (k : ℕ). line_of k a b) (sym h.0) ∙ ap (λ (x : ℤ). line_of l.cell x b) (sym h.1) ∙ ap (line_of l.cell l.a) (sym h.2) ∙ line_again l)

-- The facts of one literal are the map with its entry alone.
one_found : (l : Literal) (f : FactMap) → f ≡ finite.insert empty (atom_of l) l.outcome → facts_of (l ∷ []) ≡ Some f
unfolding facts_of
one_found l f is = ap Some (facts-longer [] l 0 tt (omega arith, refl, λ o. refl) ∙ ap (λ (e : FactMap). finite.insert e (atom_of l) l.outcome) from_sorted-nil ∙ sym is)

pub none_yet : (f : FactMap) (a : Atom) → f ≡ empty → get f a ≡ None
none_yet f a e = ap (λ (g : FactMap). get g a) e ∙ get-empty atom_cmp a

pub one_made : {E : Type 0} (l : Literal) (f : FactMap) (r : Result FactMap E) → f ≡ empty → IfOk r (λ g. g ≡ finite.insert f (atom_of l) l.outcome) → IfOk r (λ g. facts_of (l ∷ []) ≡ Some g)
one_made l f (Ok g) e h = one_found l g (h ∙ ap (λ (m : FactMap). finite.insert m (atom_of l) l.outcome) e)
one_made l f (Err x) e h = tt

pub facts_found : (ls : List Literal) (r : Option FactMap) → MatchOption r (¬ (IsInOrder ls)) (λ facts. literals facts ≡ ls) → r ≡ facts_of ls
facts_found ls None h = sym (no_facts ls h)
facts_found ls (Some f) h = sym (ap facts_of (sym h) ∙ facts_again f)
