-- An area into which events are told one by one.
use Rattle.std.proofs.Common.{◌≡◌, ◌∙◌, ap, sym, refl, arith, ℕ, ◌+◌, ◌<◌, ◌≤◌, List, [], ◌∷◌, ◌++◌, length, map, take, drop, get_or, set}
use Rattle.std.proofs.lemmas.List.{take_all, take_more, take_more_set, drop-set-lt, length-set, map-append, drop-drop, take-append-drop}
use Rattle.pixelevents.specs.declared.NamedEvent.{NamedEvent}
use Rattle.pixelevents.specs.declared.told.EventTold.{EventTold}
use Rattle.pixelevents.specs.Named.{event_told, events_filled}

-- the first n events stand at the front of the area, and what lies behind them is as it was
pub record Filled (events : List NamedEvent) (n : ℕ) (start now : List EventTold) : Type 0 where
  pub long : length now ≡ length start
  pub front : take n now ≡ map event_told (take n events)
  pub back : drop n now ≡ drop n start

pub filled_none : (events : List NamedEvent) (start : List EventTold) → Filled events 0 start start
filled_none events start = record { long = refl; front = refl; back = refl }

pub filled_more : (events : List NamedEvent) (n : ℕ) (d : NamedEvent) (start now : List EventTold) → n < length events → length events ≤ length start → Filled events n start now → Filled events (n + 1) start (set now n (event_told (get_or events n d)))
filled_more events n d start now l room h =
    let v = event_told (get_or events n d) in
    record {
      long = length-set now n v ∙ h.long;
      front = take_more_set now n v (inside (length now) (length start) (length events) l room h.long)
          ∙ ap (λ f. f ++ v ∷ []) h.front
          ∙ sym (map-append event_told (take n events) (get_or events n d ∷ []))
          ∙ ap (map event_told) (sym (take_more events n d l));
      back = drop-set-lt (n + 1) now n v (omega arith) ∙ behind h.back;
    }
  where
    inside : (a b e : ℕ) → n < e → e ≤ b → a ≡ b → n < a
    inside a b e p q r = omega arith

    behind : drop n now ≡ drop n start → drop (n + 1) now ≡ drop (n + 1) start
    behind e = sym (drop-drop 1 n now) ∙ ap (drop 1) e ∙ drop-drop 1 n start

pub filled_all : (events : List NamedEvent) (n : ℕ) (start now : List EventTold) → n ≡ length events → Filled events n start now → now ≡ events_filled start events
filled_all events n start now all h =
    sym (take-append-drop n now)
    ∙ ap (λ f. f ++ drop n now) (h.front ∙ ap (map event_told) (take_all n events (omega (arith, all))))
    ∙ ap (λ b. map event_told events ++ b) (h.back ∙ ap (λ k. drop k start) all)
