-- The entries of texts, put to the places of their keys.
use Rattle.std.proofs.Common.{◌≡◌, ◌∙◌, ℕ, zero, suc, ◌+◌, ◌-◌, ◌<◌, ◌≤◌, refl, sym, ap, subst, arith, Bool, false, List, [], ◌∷◌, ◌++◌, length, take, drop, map, Some, codes}
use Rattle.std.proofs.lemmas.List.{append_assoc, append-nil, length_push, length-take-le, take_all}
use Rattle.std.proofs.lemmas.Option.{slice_get_within}
use Rattle.std.proofs.lemmas.Map.Keys.{IsDistinct-push}
use Rattle.std.specs.Prelude.{slice_get}
use Rattle.std.specs.List.{IsDistinct}
use Rattle.std.specs.Map.{keys_of}
use Rattle.sym_base.specs.declared.values.value.Key.{Key}
use Rattle.sym_check.specs.Meaning.Groups.{is_among, is_key}
use Rattle.sym_check.specs.Plan.ScriptPlans.{ScriptPlan}
use Rattle.sym_check.proofs.Keys.{keys_equiv}
use Rattle.sym_path.proofs.Lists.{take_get}
use Rattle.sym_plain.specs.Pairs.{HaveDistinctKeys}
use Rattle.sym_file.specs.Marks.{AreMarks}
use Rattle.sym_file.specs.PlacedTexts.{AreEntriesPlaced, AreTextsPlaced, IsPlacedOnce, IsTextPlaced, Placed}
use Rattle.sym_file.specs.Places.{AreEntries, AreInOrder, AreScanned, ChainPlace, IsScanned, Span, placed, placed_all}
use Rattle.sym_file.specs.Reading.{head_at, key_at, script_at}
use Rattle.sym_file.proofs.KeyPlaces.{placed_last, placed_more}
use Rattle.sym_file.proofs.TakenTexts.{no_keys}

-- ---- the entries of a text
keys_more : {V : Type 0} (pairs : List (Key × V)) (key : Key) (value : V) → keys_of (pairs ++ (key, value) ∷ []) ≡ keys_of pairs ++ key ∷ []
keys_more [] key value = refl
keys_more (e ∷ pairs) key value = ap (λ (ks : List Key). e.0 ∷ ks) (keys_more pairs key value)

module _ (p : ScriptPlan) (text : ℕ) where
  -- The place of a chain in this text.
  abbrev here : List ℕ → ℕ → ChainPlace
  here at left = record { text = text; at = at; rest = left }

  -- An entry more.
  entries_last : (bytes : List ℕ) (entries : List (Key × ChainPlace)) (rest : List ℕ) → AreEntries p text bytes entries rest → (key : Key) (at : List ℕ) → key_at p rest ≡ Some (key, at)
      → (left : ℕ) → left ≤ length at → AreEntries p text bytes (entries ++ (key, here at left) ∷ []) (drop (length at - left) at)
  entries_last _ _ _ (AreEntries.no_entry bytes) key at read left within =
      AreEntries.one_more bytes at (drop (length at - left) at) key left [] read within (AreEntries.no_entry (drop (length at - left) at))
  entries_last _ _ _ (AreEntries.one_more bytes at' end key' left' entries read' within' are) key at read left within =
      AreEntries.one_more bytes at' (drop (length at - left) at) key' left' (entries ++ (key, here at left) ∷ []) read' within'
      (entries_last (drop (length at' - left') at') entries end are key at read left within)

  module _ (count : ℕ) (bytes : List ℕ) (old : Placed) where
    -- Some entries were put to the places, and are marked.
    pub record IsPlacing (i : ℕ) (rest : List ℕ) (now : Placed) (marks : List Bool) : Type 0 where
      pub within : i ≤ count
      pub entries : List (Key × ChainPlace)
      pub are : AreEntries p text bytes entries rest
      pub many : length entries ≡ i
      pub distinct : HaveDistinctKeys entries
      pub places : now ≡ placed_all old entries
      pub marked : AreMarks (keys_of entries) now marks

    pub placing_none : (marks : List Bool) → AreMarks [] old marks → IsPlacing 0 bytes old marks
    placing_none marks none = record {
      within = omega arith;
      entries = [];
      are = AreEntries.no_entry bytes;
      many = refl;
      distinct = no_keys;
      places = refl;
      marked = none;
    }

    module _ (i : ℕ) (rest : List ℕ) (now : Placed) (marks : List Bool) (is : IsPlacing i rest now marks) where
      pub placing_on : i < count → (key : Key) (at : List ℕ) → key_at p rest ≡ Some (key, at) → (left : ℕ) → left ≤ length at → (new : Placed) (more : List Bool)
          → IsPlacedOnce (keys_of is.entries) key (here at left) now new more → IsPlacing (i + 1) (drop (length at - left) at) new more
      placing_on below key at read left within new more once =
          let longer : keys_of (is.entries ++ (key, here at left) ∷ []) ≡ keys_of is.entries ++ key ∷ [] = keys_more is.entries key (here at left) in
          record {
            within = omega (arith, below);
            entries = is.entries ++ (key, here at left) ∷ [];
            are = entries_last bytes is.entries rest is.are key at read left within;
            many = length_push is.entries (key, here at left) ∙ ap (λ (n : ℕ). n + 1) is.many;
            distinct = subst (IsDistinct is_key) (sym longer) (IsDistinct-push keys_equiv (keys_of is.entries) key is.distinct once.0);
            places = once.1 ∙ ap (λ (groups : Placed). placed groups (key, here at left)) is.places ∙ sym (placed_last old is.entries (key, here at left));
            marked = subst (λ (ks : List Key). AreMarks ks new more) (sym longer) once.2;
          }

      pub placing_done : count ≤ i → AreEntriesPlaced p text count bytes old now rest
      placing_done past = record {
        entries = is.entries;
        are = is.are;
        many = is.many ∙ (let a = is.within in omega (arith, past, a));
        distinct = is.distinct;
        places = is.places;
      }

  -- A whole text.
  pub text_placed : (own bytes : List ℕ) (script rest : List ℕ) → script_at bytes ≡ Some (script, rest) → script ≡ own → (first next count : ℕ) (body : List ℕ)
      → head_at rest ≡ Some ((first, next, count), body) → (old new : Placed) (end : List ℕ) → AreEntriesPlaced p text count body old new end → end ≡ codes "end\n"
      → IsTextPlaced own p text bytes old new (record { first = first; next = next })
  text_placed own bytes script rest scripted same first next count body headed old new end is ended = record {
    entries = is.entries;
    scanned = record {
      rest = rest;
      scripted = subst (λ (s : List ℕ). script_at bytes ≡ Some (s, rest)) same scripted;
      body = body;
      headed = subst (λ (n : ℕ). head_at rest ≡ Some ((first, next, n), body)) (sym is.many) headed;
      are = subst (AreEntries p text body is.entries) ended is.are;
      distinct = is.distinct;
    };
    places = is.places;
  }

-- ---- texts
module _ (own : List ℕ) (p : ScriptPlan) where
  -- A text more.
  scanned_last : (n : ℕ) (texts : List (List ℕ)) (spans : List Span) (entries : List (Key × ChainPlace)) → AreScanned own p n texts spans entries → (k : ℕ) → k ≡ n + length texts
      → (bytes : List ℕ) (span : Span) (more : List (Key × ChainPlace)) → IsScanned own p k bytes span more → AreScanned own p n (texts ++ bytes ∷ []) (spans ++ span ∷ []) (entries ++ more)
  scanned_last _ _ _ _ (AreScanned.no_text n) k e bytes span more is =
      let same : k ≡ n = omega (arith, e) in
      let one : AreScanned own p n (bytes ∷ []) (span ∷ []) (more ++ []) =
      AreScanned.text_more n bytes [] span [] more [] (subst (λ (m : ℕ). IsScanned own p m bytes span more) same is) (AreScanned.no_text (suc n)) in
      subst (AreScanned own p n (bytes ∷ []) (span ∷ [])) (append-nil more) one
  scanned_last _ _ _ _ (AreScanned.text_more n bytes' texts span' spans entries others is' are) k e bytes span more is =
      let later : k ≡ suc n + length texts = omega (arith, e) in
      subst (AreScanned own p n (bytes' ∷ texts ++ bytes ∷ []) (span' ∷ spans ++ span ∷ [])) (sym (append_assoc entries others more))
      (AreScanned.text_more n bytes' (texts ++ bytes ∷ []) span' (spans ++ span ∷ []) entries (others ++ more) is'
      (scanned_last (suc n) texts spans others are k later bytes span more is))

  module _ (texts : List (List ℕ)) (old : Placed) where
    -- The first texts were put to the places.
    pub record ArePlacing (i : ℕ) (now : Placed) (spans : List Span) : Type 0 where
      pub within : i ≤ length texts
      pub are : AreTextsPlaced own p (take i texts) old now spans

    pub texts_none : ArePlacing 0 old []
    texts_none = record {
      within = omega arith;
      are = record { entries = []; scanned = AreScanned.no_text 0; places = refl };
    }

    pub texts_on : (i : ℕ) (now : Placed) (spans : List Span) → ArePlacing i now spans → (bytes : List ℕ) → slice_get texts i ≡ Some bytes → (new : Placed) (span : Span)
        → IsTextPlaced own p i bytes now new span → ArePlacing (i + 1) new (spans ++ span ∷ [])
    texts_on i now spans is bytes at new span one =
        let within : i < length texts = slice_get_within texts i bytes at in
        let many : i ≡ 0 + length (take i texts) = let l = length-take-le i texts is.within in omega (arith, l) in
        let scanned = scanned_last 0 (take i texts) spans is.are.entries is.are.scanned i many bytes span one.entries one.scanned in
        record {
          within = omega (arith, within);
          are = record {
            entries = is.are.entries ++ one.entries;
            scanned = subst (λ (ts : List (List ℕ)). AreScanned own p 0 ts (spans ++ span ∷ []) (is.are.entries ++ one.entries)) (sym (take_get texts i bytes at)) scanned;
            places = one.places ∙ ap (λ (groups : Placed). placed_all groups one.entries) is.are.places ∙ sym (placed_more old is.are.entries one.entries);
          };
        }

    pub texts_done : (i : ℕ) (now : Placed) (spans : List Span) → ArePlacing i now spans → length texts ≤ i → AreTextsPlaced own p texts old now spans
    texts_done i now spans is past = subst (λ (ts : List (List ℕ)). AreTextsPlaced own p ts old now spans) (take_all i texts past) is.are

-- ---- their numbers
pub order_last : (spans : List Span) (span : Span) → AreInOrder spans → 1 ≤ span.first → span.first ≤ span.next
    → ((k : ℕ) (before : Span) → length spans ≡ suc k → slice_get spans k ≡ Some before → span.first ≡ before.next) → AreInOrder (spans ++ span ∷ [])
order_last [] span o from order after = (from, order)
order_last (s ∷ []) span o from order after = (o.0, o.1, after 0 s refl refl, (from, order))
order_last (s ∷ t ∷ spans) span o from order after =
    (o.0, o.1, o.2, order_last (t ∷ spans) span o.3 from order (λ k before many at. after (suc k) before (ap suc many) at))

get_taken : {A : Type 0} (xs : List A) (i k : ℕ) (x : A) → slice_get (take i xs) k ≡ Some x → slice_get xs k ≡ Some x
get_taken [] zero k x at = at
get_taken [] (suc i) k x at = at
get_taken (y ∷ xs) zero k x at = absurd cc
get_taken (y ∷ xs) (suc i) zero x at = at
get_taken (y ∷ xs) (suc i) (suc k) x at = get_taken xs i k x at

module _ (spans : List Span) (i : ℕ) (span : Span) (are : AreInOrder (take i spans)) (at : slice_get spans i ≡ Some span) (from : 1 ≤ span.first) (order : span.first ≤ span.next) where
  within_spans : i < length spans
  within_spans = slice_get_within spans i span at

  in_order_on : ((k : ℕ) (before : Span) → i ≡ suc k → slice_get spans k ≡ Some before → span.first ≡ before.next) → AreInOrder (take (i + 1) spans) × (i + 1 ≤ length spans)
  in_order_on after =
      let many : length (take i spans) ≡ i = let w = within_spans in length-take-le i spans (omega (arith, w)) in (
        subst AreInOrder (sym (take_get spans i span at))
            (order_last (take i spans) span are from order (λ k before count there. after k before (sym many ∙ count) (get_taken spans i k before there))),
        (let w = within_spans in omega (arith, w)),
      )

  pub in_order_first : i ≤ 0 → AreInOrder (take (i + 1) spans) × (i + 1 ≤ length spans)
  in_order_first none = in_order_on (λ k before is there. absurd (omega (arith, none, is)))

  pub in_order_next : (k : ℕ) (before : Span) → i ≡ suc k → slice_get spans k ≡ Some before → before.next ≡ span.first → AreInOrder (take (i + 1) spans) × (i + 1 ≤ length spans)
  in_order_next k before is there same =
      in_order_on
      (λ k' before' is' there'.
      let one : k' ≡ k = omega (arith, is, is') in
      let both : Some before' ≡ Some before = sym there' ∙ ap (slice_get spans) one ∙ there in
      let equal : before' ≡ before = cc in
      sym same ∙ ap (λ (s : Span). s.next) (sym equal))
