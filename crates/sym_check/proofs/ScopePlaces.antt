-- The places of first entries, as a scope grows and shrinks.
use Rattle.std.proofs.Common.{◌≡◌, ◌≢◌, ◌∙◌, ap, sym, refl, arith, ℕ, ◌<◌, ◌≤◌, Bool, true, false, List, [], ◌∷◌, ◌++◌, length, Option, Some, None, cond}
use Rattle.std.specs.Prelude.{if◌then◌else◌, option_map, option_copied, is_some, slice_get, slice_index_or, nat_eq, suc}
use Rattle.std.specs.Borrow.{Bor}
use Rattle.std.specs.Option.{option_eq}
use Rattle.std.specs.BTreeMap as tree
use Rattle.std.specs.BTreeMap.{BTreeMap, get_by_text}
use Rattle.std.specs.Cmp.Lexicographic.{slice_cmp}
use Rattle.std.specs.Ordering.{nat_cmp}
use Rattle.std.specs.String.{string_cmp, string_bytes}
use Rattle.std.specs.declared.string.String.{String}
use Rattle.std.proofs.lemmas.Option.{slice_get_past, slice_get_read}
use Rattle.std.proofs.lemmas.Bool.Decides.{Decides-eqb}
use Rattle.std.proofs.lemmas.Map.Text.{btree_map_updates_text}
use Rattle.std.proofs.lemmas.Slice.Eq.{bytes_eq-Decides}
use Rattle.sym_check.specs.declared.elaborate.scope.Meaning.{Meaning}
use Rattle.sym_check.specs.declared.elaborate.scope.Entry.{Entry}
use Rattle.sym_check.specs.Meaning.Conditions.{same_word}
use Rattle.sym_check.specs.Checking.Places.{place_of, ArePlaces}
use Rattle.sym_check.specs.Rules.Scopes.{Scope, find}

-- What the entry at this place stands for.
abbrev meaning_at : Scope → Option ℕ → Option Meaning
meaning_at s None = None
meaning_at s (Some place) = option_map (λ e. e.meaning) (slice_get s place)

found_behind : (here : Bool) (e : Entry) (rest : Scope) (place : Option ℕ) (m : Option Meaning) → m ≡ meaning_at rest place → (if here then Some e.meaning else m) ≡ meaning_at (e ∷ rest) (if here then Some 0 else option_map suc place)
found_behind true e rest place m h = refl
found_behind false e rest None m h = h
found_behind false e rest (Some place) m h = h

-- A name stands for what the entry at its place says.
pub found_at : (s : Scope) (text : List ℕ) → find s text ≡ meaning_at s (place_of s text)
found_at [] text = refl
found_at (e ∷ rest) text = found_behind (same_word e.name text) e rest (place_of rest text) (find rest text) (found_at rest text)

-- A name with no place stands for nothing.
pub found_none : (s : Scope) (text : List ℕ) → None ≡ place_of s text → None ≡ find s text
found_none s text e = ap (meaning_at s) e ∙ sym (found_at s text)

-- No name has a place past the end.
pub found_past : (s items : Scope) (text : List ℕ) (place : ℕ) → items ≡ s → Some place ≡ place_of s text → length items ≤ place → None ≡ find s text
found_past s items text place same e past =
    sym (found_at items text ∙ ap (λ x. meaning_at items (place_of x text)) same ∙ ap (meaning_at items) (sym e) ∙ ap (option_map (λ x. x.meaning)) (slice_get_past items place past))
    ∙ ap (λ x. find x text) same

pub found_some : (s items : Scope) (text : List ℕ) (place : ℕ) (e : Entry) → items ≡ s → Some place ≡ place_of s text → place < length items → e ≡ slice_index_or items place e → Some e.meaning ≡ find s text
found_some s items text place e same p within here =
    sym (found_at items text ∙ ap (λ x. meaning_at items (place_of x text)) same ∙ ap (meaning_at items) (sym p) ∙ ap (option_map (λ x. x.meaning)) (slice_get_read items (length items) place e refl within here))
    ∙ ap (λ x. find x text) same

-- The place that is there, or else this one where the last entry has the name.
abbrev or_place : Option ℕ → Bool → ℕ → Option ℕ
or_place (Some first) last place = Some first
or_place None last place = if last then Some place else None

next_or : (first : Option ℕ) (last : Bool) (place : ℕ) → option_map suc (or_place first last place) ≡ or_place (option_map suc first) last (suc place)
next_or (Some first) last place = refl
next_or None true place = refl
next_or None false place = refl

placed_behind : (here last : Bool) (place : ℕ) (first more : Option ℕ) → more ≡ or_place first last place → (if here then Some 0 else option_map suc more) ≡ or_place (if here then Some 0 else option_map suc first) last (suc place)
placed_behind true last place first more h = refl
placed_behind false last place first more h = ap (option_map suc) h ∙ next_or first last place

place_more : (s : Scope) (e : Entry) (text : List ℕ) → place_of (s ++ e ∷ []) text ≡ or_place (place_of s text) (same_word e.name text) (length s)
place_more [] e text = refl
place_more (d ∷ rest) e text = placed_behind (same_word d.name text) (same_word e.name text) (length rest) (place_of rest text) (place_of (rest ++ e ∷ []) text) (place_more rest e text)

within_behind : (here : Bool) (place : Option ℕ) (count n : ℕ) → ((p : ℕ) → place ≡ Some p → p < count) → (if here then Some 0 else option_map suc place) ≡ Some n → n < suc count
within_behind true place count n f h = grind (arith)
within_behind false None count n f h = grind (arith)
within_behind false (Some place) count n f h = let g : place < count = f place refl in grind (arith)

place_within : (s : Scope) (text : List ℕ) (n : ℕ) → place_of s text ≡ Some n → n < length s
place_within [] text n h = grind (arith)
place_within (e ∷ rest) text n h = within_behind (same_word e.name text) (place_of rest text) (length rest) n (place_within rest text) h

-- `own` is the place of the last entry's name among the earlier entries, and `first` that of any name.
module _ (last : Bool) (first own : Option ℕ) (place : ℕ) (same : last ≡ true → own ≡ first) where
  earlier : is_some own ≡ true → or_place first last place ≡ first
  earlier = by last first same
    where
      by : (b : Bool) (o : Option ℕ) → (b ≡ true → own ≡ o) → is_some own ≡ true → or_place o b place ≡ o
      by b (Some p) f h = refl
      by false None f h = refl
      by true None f h = grind (arith, f refl, h)

  anew : own ≡ None → cond last (Some place) first ≡ or_place first last place
  anew = by last first same
    where
      by : (b : Bool) (o : Option ℕ) → (b ≡ true → own ≡ o) → own ≡ None → cond b (Some place) o ≡ or_place o b place
      by false (Some p) f h = refl
      by false None f h = refl
      by true None f h = refl
      by true (Some p) f h = grind (arith, f refl, h)

  taken : own ≡ None → cond last None (or_place first last place) ≡ first
  taken = by last first same
    where
      by : (b : Bool) (o : Option ℕ) → (b ≡ true → own ≡ o) → own ≡ None → cond b None (or_place o b place) ≡ o
      by false (Some p) f h = refl
      by false None f h = refl
      by true None f h = refl
      by true (Some p) f h = grind (arith, f refl, h)

unplaced : (own : Option ℕ) (last : Bool) (place : ℕ) → or_place own last place ≡ Some place → ((p : ℕ) → own ≡ Some p → p < place) → own ≡ None
unplaced None last place h f = refl
unplaced (Some p) last place h f = let g : p < place = f p refl in grind (arith, h)

stays : (own : Option ℕ) (last : Bool) (place : ℕ) → last ≡ true → (or_place own last place ≢ Some place) → is_some own ≡ true
stays (Some p) last place t f = refl
stays None true place t f = absurd (f refl)
stays None false place t f = grind (arith, t)

same_place : (s : Scope) (name text : List ℕ) → same_word name text ≡ true → place_of s name ≡ place_of s text
same_place s name text t = ap (place_of s) ((bytes_eq-Decides name text).0 t)

-- A name that has a place keeps it.
pub placed_earlier : {A : Type 0} (places : BTreeMap (String A) ℕ) (name : List ℕ) → is_some (get_by_text places name) ≡ true → (s : Scope) (e : Entry) → e.name ≡ name → ArePlaces places s → ArePlaces places (s ++ e ∷ [])
placed_earlier places name h s e n p text =
    let own : is_some (place_of s e.name) ≡ true = ap (λ x. is_some (place_of s x)) n ∙ ap is_some (sym (p name)) ∙ h in
    p text
    ∙ sym (earlier (same_word e.name text) (place_of s text) (place_of s e.name) (length s) (same_place s e.name text) own)
    ∙ sym (place_more s e text)

-- A new name gets the place behind the others.
pub placed : {A : Type 0} (old new : BTreeMap (String A) ℕ) (name : List ℕ) (place : ℕ) → get_by_text old name ≡ None → tree.UpdatesBy string_cmp (λ k. slice_cmp nat_cmp name (string_bytes k)) old new (Some place) → (s : Scope) (e : Entry) → length s ≡ place → e.name ≡ name → ArePlaces old s → ArePlaces new (s ++ e ∷ [])
placed old new name place none u s e count n p text =
    let own : place_of s e.name ≡ None = ap (place_of s) n ∙ sym (p name) ∙ none in
    btree_map_updates_text name old new (Some place) u text
    ∙ ap (λ x. cond (same_word x text) (Some place) (get_by_text old text)) (sym n)
    ∙ ap (λ x. cond (same_word e.name text) (Some x) (get_by_text old text)) (sym count)
    ∙ ap (λ x. cond (same_word e.name text) (Some (length s)) x) (p text)
    ∙ anew (same_word e.name text) (place_of s text) (place_of s e.name) (length s) (same_place s e.name text) own
    ∙ sym (place_more s e text)

-- The place of the last entry goes with it.
pub place_taken : {A : Type 0} (old new : BTreeMap (String A) ℕ) (name : List ℕ) (place : ℕ) → get_by_text old name ≡ Some place → tree.UpdatesBy string_cmp (λ k. slice_cmp nat_cmp name (string_bytes k)) old new None → (s : Scope) (e : Entry) → length s ≡ place → e.name ≡ name → ArePlaces old (s ++ e ∷ []) → ArePlaces new s
place_taken old new name place found u s e count n p text =
    let last : or_place (place_of s e.name) (same_word e.name e.name) (length s) ≡ Some (length s) = sym (place_more s e e.name) ∙ sym (p e.name) ∙ ap (get_by_text old) n ∙ found ∙ ap Some (sym count) in
    let own : place_of s e.name ≡ None = unplaced (place_of s e.name) (same_word e.name e.name) (length s) last (place_within s e.name) in
    btree_map_updates_text name old new None u text
    ∙ ap (λ x. cond (same_word x text) None (get_by_text old text)) (sym n)
    ∙ ap (λ x. cond (same_word e.name text) None x) (p text ∙ place_more s e text)
    ∙ taken (same_word e.name text) (place_of s text) (place_of s e.name) (length s) (same_place s e.name text) own

-- A place of an earlier entry stays.
pub place_stays : {A : Type 0} (places : BTreeMap (String A) ℕ) (name : List ℕ) (place : ℕ) → (get_by_text places name ≢ Some place) → (s : Scope) (e : Entry) → length s ≡ place → e.name ≡ name → ArePlaces places (s ++ e ∷ []) → ArePlaces places s
place_stays places name place other s e count n p text =
    let last : or_place (place_of s e.name) (same_word e.name e.name) (length s) ≢ Some (length s) = λ h. other (sym (ap (get_by_text places) n) ∙ p e.name ∙ place_more s e e.name ∙ h ∙ ap Some count) in
    let own : is_some (place_of s e.name) ≡ true = stays (place_of s e.name) (same_word e.name e.name) (length s) ((bytes_eq-Decides e.name e.name).1 refl) last in
    p text ∙ place_more s e text
    ∙ earlier (same_word e.name text) (place_of s text) (place_of s e.name) (length s) (same_place s e.name text) own

-- Whether what is found is this place.
pub at_place : (found : Option (Bor ℕ)) (place : Bor ℕ) → option_eq (λ x y. nat_eq x.now y.now) found (Some place) ≡ true → option_copied found ≡ Some place.now
at_place None place h = grind (arith, h)
at_place (Some x) place h = ap Some ((Decides-eqb x.now place.now).0 h)

pub not_at_place : (found : Option (Bor ℕ)) (place : Bor ℕ) → option_eq (λ x y. nat_eq x.now y.now) found (Some place) ≡ false → option_copied found ≢ Some place.now
not_at_place None place h = λ e. grind (arith, e)
not_at_place (Some x) place h = λ e. grind (arith, e, h, (Decides-eqb x.now place.now).1)

pub no_place : (found : Option ℕ) → is_some found ≡ false → found ≡ None
no_place None h = refl
no_place (Some place) h = grind (arith, h)
