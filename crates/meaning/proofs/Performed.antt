-- What isn't performed sets no state, and begins and ends no issue.
use Rattle.std.proofs.Common.{◌≡◌, ◌∙◌, ap, sym, refl, ℕ, ◌+◌, Bool, true, false, not, ◌&&◌, ◌||◌, cond, List, [], ◌∷◌, ◌++◌, append_assoc, if◌then◌else◌}
use Rattle.std.specs.Prelude.{Option, None, ◌==◌, filter, filter_map}
use Rattle.std.specs.List.{list_any, cons_option}
use Rattle.std.proofs.lemmas.List.{append-nil}
use Rattle.std.proofs.lemmas.List.Elements.{filter-append}
use Rattle.gfxspec.specs.Commands.{Command, Draw, DrawIndexed, ClearColor, ClearDepthStencil, Begin, End}
use Rattle.gfxspec.specs.Recorded.{vertices_set, indices_set, topology_set, raster_set, scissor_set, depth_stencil_set, reference_set, blend_set, predicate_set, settings_after, query_begun, issues, query_named, queries_named, ends, open_from, open_after, queries_open, is_drawing}
use Rattle.gfxspec.specs.Session.{begun_from}
use Rattle.gfxspec.specs.Predication.{withholds, is_performed, performed_behind, performed}

-- all commands but draws and clears
abbrev pub calm : List Command → List Command
calm cs = filter (λ c. not (is_drawing c)) cs

pub calm-append : (cs ds : List Command) → calm (cs ++ ds) ≡ calm cs ++ calm ds
calm-append cs ds = filter-append (λ c. not (is_drawing c)) cs ds

-- they are performed
pub calm_performed : (results : ℕ → Bool) (earlier cs : List Command) → calm (performed_behind results earlier cs) ≡ calm cs
calm_performed results earlier [] = refl
calm_performed results earlier (c ∷ cs) = chosen (is_drawing c) (withholds results (settings_after earlier).predicate) refl (calm_performed results (earlier ++ c ∷ []) cs)
  where
    rest : List Command
    rest = performed_behind results (earlier ++ c ∷ []) cs

    chosen : (d w : Bool) → is_drawing c ≡ d → calm rest ≡ calm cs → calm (cond (not (d && w)) (c ∷ rest) rest) ≡ calm (c ∷ cs)
    chosen true true is h = h ∙ sym (ap (λ b. cond (not b) (c ∷ calm cs) (calm cs)) is)
    chosen true false is h = ap (λ l. cond (not (is_drawing c)) (c ∷ l) l) h
    chosen false w is h = ap (λ l. cond (not (is_drawing c)) (c ∷ l) l) h

-- one more command, which may be performed
abbrev pub one_performed : (ℕ → Bool) → List Command → Command → List Command
one_performed results earlier c = if is_performed results (settings_after earlier) c then c ∷ [] else []

performed_behind-push : (results : ℕ → Bool) (earlier cs : List Command) (c : Command) → performed_behind results earlier (cs ++ c ∷ []) ≡ performed_behind results earlier cs ++ one_performed results (earlier ++ cs) c
performed_behind-push results earlier [] c = ap (λ e. one_performed results e c) (sym (append-nil earlier))
performed_behind-push results earlier (d ∷ cs) c =
    chosen (is_performed results (settings_after earlier) d)
    (performed_behind-push results (earlier ++ d ∷ []) cs c
    ∙ ap (λ e. performed_behind results (earlier ++ d ∷ []) cs ++ one_performed results e c) (append_assoc earlier (d ∷ []) cs))
  where
    rest : List Command
    rest = performed_behind results (earlier ++ d ∷ []) cs

    more : List Command
    more = performed_behind results (earlier ++ d ∷ []) (cs ++ c ∷ [])

    chosen : (b : Bool) → more ≡ rest ++ one_performed results (earlier ++ (d ∷ cs)) c → cond b (d ∷ more) more ≡ cond b (d ∷ rest) rest ++ one_performed results (earlier ++ (d ∷ cs)) c
    chosen true e = ap (λ l. d ∷ l) e
    chosen false e = e

pub performed-push : (results : ℕ → Bool) (cs : List Command) (c : Command) → performed results (cs ++ c ∷ []) ≡ performed results cs ++ one_performed results cs c
performed-push results cs c = performed_behind-push results [] cs c

-- ---- what draws and clears leave as it is

record Quiet (c : Command) : Type 0 where
  pub vertices : vertices_set c ≡ None
  pub indices : indices_set c ≡ None
  pub topology : topology_set c ≡ None
  pub raster : raster_set c ≡ None
  pub scissor : scissor_set c ≡ None
  pub depth_stencil : depth_stencil_set c ≡ None
  pub reference : reference_set c ≡ None
  pub blend : blend_set c ≡ None
  pub predicate : predicate_set c ≡ None
  pub begun : query_begun c ≡ None
  pub named : query_named c ≡ None

quiet : (c : Command) → is_drawing c ≡ true → Quiet c
quiet (Draw count start) h = record { vertices = refl; indices = refl; topology = refl; raster = refl; scissor = refl; depth_stencil = refl; reference = refl; blend = refl; predicate = refl; begun = refl; named = refl }
quiet (DrawIndexed count start base) h = record { vertices = refl; indices = refl; topology = refl; raster = refl; scissor = refl; depth_stencil = refl; reference = refl; blend = refl; predicate = refl; begun = refl; named = refl }
quiet (ClearColor rgba) h = record { vertices = refl; indices = refl; topology = refl; raster = refl; scissor = refl; depth_stencil = refl; reference = refl; blend = refl; predicate = refl; begun = refl; named = refl }
quiet (ClearDepthStencil depth stencil) h = record { vertices = refl; indices = refl; topology = refl; raster = refl; scissor = refl; depth_stencil = refl; reference = refl; blend = refl; predicate = refl; begun = refl; named = refl }
quiet c h = absurd cc

marks_calm : {X : Type 0} (h : Command → Option X) → ((c : Command) → is_drawing c ≡ true → h c ≡ None) → (cs : List Command) → filter_map h (calm cs) ≡ filter_map h cs
marks_calm h none [] = refl
marks_calm h none (c ∷ cs) = chosen (is_drawing c) refl (marks_calm h none cs)
  where
    chosen : (d : Bool) → is_drawing c ≡ d → filter_map h (calm cs) ≡ filter_map h cs → filter_map h (cond (not d) (c ∷ calm cs) (calm cs)) ≡ filter_map h (c ∷ cs)
    chosen true is e = e ∙ sym (ap (λ o. cons_option o (filter_map h cs)) (none c is))
    chosen false is e = ap (λ l. cons_option (h c) l) e

settings_calm : (cs : List Command) → settings_after (calm cs) ≡ settings_after cs
settings_calm cs =
    rw (
      marks_calm vertices_set (λ c h. (quiet c h).vertices) cs,
      marks_calm indices_set (λ c h. (quiet c h).indices) cs,
      marks_calm topology_set (λ c h. (quiet c h).topology) cs,
      marks_calm raster_set (λ c h. (quiet c h).raster) cs,
      marks_calm scissor_set (λ c h. (quiet c h).scissor) cs,
      marks_calm depth_stencil_set (λ c h. (quiet c h).depth_stencil) cs,
      marks_calm reference_set (λ c h. (quiet c h).reference) cs,
      marks_calm blend_set (λ c h. (quiet c h).blend) cs,
      marks_calm predicate_set (λ c h. (quiet c h).predicate) cs,
    )
    refl

ends_calm : (q : ℕ) (cs : List Command) → list_any (ends q) (calm cs) ≡ list_any (ends q) cs
ends_calm q [] = refl
ends_calm q (End p ∷ cs) = ap (λ b. (p == q) || b) (ends_calm q cs)
ends_calm q (c ∷ cs) = ends_calm q cs

open_calm : (k : ℕ) (cs : List Command) → open_from k (calm cs) ≡ open_from k cs
open_calm k [] = refl
open_calm k (Begin q ∷ cs) =
    ap (λ b. cond b (open_from (k + 1) (calm cs)) (k ∷ open_from (k + 1) (calm cs))) (ends_calm q cs)
    ∙ ap (λ l. cond (list_any (ends q) cs) l (k ∷ l)) (open_calm (k + 1) cs)
open_calm k (c ∷ cs) = open_calm k cs

queries_calm : (cs : List Command) → queries_open (calm cs) ≡ queries_open cs
queries_calm [] = refl
queries_calm (Begin q ∷ cs) =
    ap (λ b. cond b (queries_open (calm cs)) (q ∷ queries_open (calm cs))) (ends_calm q cs)
    ∙ ap (λ l. cond (list_any (ends q) cs) l (q ∷ l)) (queries_calm cs)
queries_calm (c ∷ cs) = queries_calm cs

begun_calm : (q k : ℕ) (cs : List Command) → begun_from q k (calm cs) ≡ begun_from q k cs
begun_calm q k [] = refl
begun_calm q k (Begin p ∷ cs) = ap (λ l. cond (p == q) (k ∷ l) l) (begun_calm q (k + 1) cs)
begun_calm q k (c ∷ cs) = begun_calm q k cs

-- lists that differ in draws and clears alone
pub record Alike (cs ds : List Command) : Type 0 where
  pub settings : settings_after cs ≡ settings_after ds
  pub issues_are : issues cs ≡ issues ds
  pub named : queries_named cs ≡ queries_named ds
  pub opened : open_after cs ≡ open_after ds
  pub queries : queries_open cs ≡ queries_open ds
  pub begun : (q : ℕ) → begun_from q 0 cs ≡ begun_from q 0 ds

pub alike : (cs ds : List Command) → calm cs ≡ calm ds → Alike cs ds
alike cs ds h = record {
  settings = sym (settings_calm cs) ∙ ap settings_after h ∙ settings_calm ds;
  issues_are = sym (marks_calm query_begun (λ c k. (quiet c k).begun) cs) ∙ ap issues h ∙ marks_calm query_begun (λ c k. (quiet c k).begun) ds;
  named = sym (marks_calm query_named (λ c k. (quiet c k).named) cs) ∙ ap queries_named h ∙ marks_calm query_named (λ c k. (quiet c k).named) ds;
  opened = sym (open_calm 0 cs) ∙ ap open_after h ∙ open_calm 0 ds;
  queries = sym (queries_calm cs) ∙ ap queries_open h ∙ queries_calm ds;
  begun = λ q. sym (begun_calm q 0 cs) ∙ ap (begun_from q 0) h ∙ begun_calm q 0 ds;
}

-- the commands of a list that are performed, and the list
pub performed_alike : (results : ℕ → Bool) (cs : List Command) → Alike (performed results cs) cs
performed_alike results cs = alike (performed results cs) cs (calm_performed results [] cs)
