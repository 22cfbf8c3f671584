-- Any two results that a contract allows are equal: of each function.
use mathlib.Core.Path.{◌≡◌, sym, ◌∙◌}
use Rattle.rules.specs.Refusals.{first, layout_reasons, settings_refusal}
use Rattle.rules.proofs.Results.{OneResult, one-answer}
use Rattle.settings.proofs.JudgedTryFromSettings.try_from.Reads as try-from
use Rattle.settings.proofs.JudgedTryFromSettings.try_from.Kinds as try-from-kinds
use Rattle.settings.proofs.Layout.judged.Reads as layout
use Rattle.settings.proofs.Layout.judged.Kinds as layout-kinds
use Rattle.settings.proofs.message_count.Reads as message-count
use Rattle.settings.proofs.message_count.Kinds as message-count-kinds
use Rattle.rules.specs.declared.Settings.{Settings}
use Rattle.settings.specs.Judged.{settings_of, LaidOut}
use Rattle.settings.specs.declared.Judged as J
use Rattle.settings.specs.declared.Layout as L

-- judged settings are had from the settings in one way: field by field
pub one-narrowed : (s : Settings) (x y : J.Judged) → settings_of x ≡ s → settings_of y ≡ s → x ≡ y
one-narrowed s x y p q =
    let h : settings_of x ≡ settings_of y = p ∙ sym q in
    λ i. record { n = (h i).n; m = (h i).m; u = (h i).u; sender = (h i).sender; value = (h i).value; faults = (h i).faults }

same-layout : (n m : _) (x y : L.Layout) → LaidOut n m x → LaidOut n m y → x ≡ y
same-layout n m x y p q = λ i. record { n = (p.0 ∙ sym q.0) i; m = (p.1 ∙ sym q.1) i }

-- settings are refused, or judged, in one way
pub one-settings-refusal : OneResult 0 try-from-kinds.ps try-from-kinds.r try-from.Post
one-settings-refusal κs a x y s t p q = one-answer (settings_refusal a.0) (λ j. settings_of j ≡ a.0) (one-narrowed a.0) x y p q

-- and so are nodes and rounds
pub one-layout-refusal : OneResult 0 layout-kinds.ps layout-kinds.r layout.Post
one-layout-refusal κs a x y s t p q = one-answer (first (layout_reasons a.0 a.1.0)) (LaidOut a.0 a.1.0) (same-layout a.0 a.1.0) x y p q

pub one-message-count : OneResult 0 message-count-kinds.ps message-count-kinds.r message-count.Post
one-message-count κs a x y s t p q = p ∙ sym q
