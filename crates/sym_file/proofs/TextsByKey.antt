-- Texts that are read by key.
use Rattle.std.proofs.Common.{◌≡◌, ℕ, ◌<◌, ◌≤◌, ◌^◌, refl, arith, List, [], ◌∷◌, length, map, Option, Some, None, Vec, Global}
use Rattle.std.proofs.lemmas.List.Elements.{All-map, All-weaker}
use Rattle.std.specs.Prelude.{slice_get}
use Rattle.std.specs.List.{All}
use Rattle.sym_base.specs.declared.limits.TheConstants as limits
use Rattle.sym_check.specs.Plan.ScriptPlans.{ScriptPlan}
use Rattle.sym_check.specs.Plan.WellFormed.{IsWellFormed}
use Rattle.sym_run.specs.ClosedJoins.{IsJoinable}
use Rattle.sym_run.specs.declared.saved.Saved.{Saved}
use Rattle.sym_file.specs.PlacedTexts.{IsJoinedByKey}
use Rattle.sym_file.specs.Places.{AreScanned, AreTextsJoined, ChainPlace, Span}
use Rattle.sym_base.specs.declared.values.value.Key.{Key}
use Rattle.sym_file.proofs.TextsInTurn.{by_key_in_turn}

-- Where there are no texts, there are no numbers of records.
no_spans : (script : List ℕ) (p : ScriptPlan) (n : ℕ) (spans : List Span) (entries : List (Key × ChainPlace)) → AreScanned script p n [] spans entries → (span : Span) → slice_get spans 0 ≡ Some span → ⊥
no_spans script p _ _ _ (AreScanned.no_text n) span at = absurd cc

-- They come to what they come to in order.
pub texts_in_turn : (script : List ℕ) (p : ScriptPlan) → IsWellFormed p → (limit : ℕ) (texts : List (List ℕ)) → All (λ (bytes : List ℕ). length bytes < 2 ^ 64) texts → (saved : Saved)
    → IsJoinedByKey script p limit texts saved → AreTextsJoined script p limit texts saved × IsJoinable p saved
texts_in_turn script p formed limit [] few saved is = absurd (no_spans script p 0 is.spans is.joined.entries is.joined.scanned is.begins is.begins_with)
texts_in_turn script p formed limit (text ∷ texts) few saved is =
    by_key_in_turn script p formed limit text texts is.spans saved.groups few is.joined is.begins is.ends is.begins_with is.ends_with saved is.first_is is.next_is refl

-- Files are shorter than that.
pub few_bytes : (texts : List (Vec ℕ Global)) → All (λ (text : Vec ℕ Global). length text.items ≤ limits.FILE_MAX) texts → All (λ (bytes : List ℕ). length bytes < 2 ^ 64) (map (λ (text : Vec ℕ Global). text.items) texts)
few_bytes texts size =
    All-map (λ (bytes : List ℕ). length bytes < 2 ^ 64) (λ (text : Vec ℕ Global). text.items) texts
    (All-weaker (λ (text : Vec ℕ Global). length text.items ≤ limits.FILE_MAX) (λ (text : Vec ℕ Global). length text.items < 2 ^ 64) (λ text few. omega (arith, few)) texts size)
