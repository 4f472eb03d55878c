-- One more command in a recorder.
use Rattle.std.proofs.Common.{◌≡◌, ◌≢◌, ◌∙◌, ap, sym, subst, refl, ℕ, ◌+◌, ◌<◌, ◌≤◌, arith, Bool, true, false, cond, List, [], ◌∷◌, ◌++◌, length, map, replicate}
use Rattle.std.specs.Prelude.{ℤ, Option, Some, None, option_map, filter_map, nat_lt, nat_le, ◌==◌, ◌||◌, slice_index_or, slice_set}
use Rattle.std.specs.List.{cons_option}
use Rattle.std.proofs.Math.Bool.{or-false, or-true}
use Rattle.std.proofs.lemmas.List.{length_push, length-append, length-set, length-replicate, map-append, get_or_past, get_or-replicate, get_or-set_same, get_or-set_other}
use Rattle.std.proofs.lemmas.List.Folds.{list_any-append}
use Rattle.std.proofs.lemmas.List.Elements.{filter_map-append}
use Rattle.std.proofs.lemmas.Bool.Decides.{nat_tests}
use Rattle.gfxspec.specs.declared.TheConstants.{LIST_LIMIT, QUERY_LIMIT}
use Rattle.gfxspec.specs.Assembly.{draw_indexed_primitives}
use Rattle.gfxspec.specs.Commands.{Command, SetPredication, Draw, DrawIndexed, ClearColor, ClearDepthStencil, Begin, Kept}
use Rattle.gfxspec.specs.Recorded.{settings_after, issues, query_begun, query_named, queries_named, queries_open, triangle_count, is_drawing}
use Rattle.gfxspec.specs.declared.error.GfxError.{GfxError}
use Rattle.gfxspec.specs.State.{Settings as PlainSettings}
use Rattle.gfxspec.specs.Refusals.{Row, first_row, list_rows, too_long, is_among, is_bad_predicate}
use Rattle.gfxspec.specs.Accepted.{AreSound, IsAccepted, AreAccepted}
use Rattle.meaning.specs.OneMore.{settings_with, queries_with}
use Rattle.meaning.proofs.Nearest.{settings_after-push}
use Rattle.meaning.proofs.Growing.{issues-push, triangle_count-push, queries_open-push, accepted-push, open_few}
use Rattle.meaning.proofs.Accepting.{none_of, sound_after}
use Rattle.meaning.proofs.Predicates.{along}
use Rattle.command.specs.declared.command.Command.{Command as Code}
use Rattle.cmdlist.specs.DrawRows.{draw_indexed_rows}
use Rattle.command.specs.Seen.{settings_value, command_value}
use Rattle.cmdlist.specs.Recorder.{commands_of, IsRecorded, OnlyLength, is_call, is_begin, marked_by, marked, marks_of}
use Rattle.cmdlist.specs.declared.context.DeferredContext.TheInside.{Inside}

-- a call of which no row applies is accepted
accepted : (cs : List Command) (k : Command) → is_call k ≡ true → first_row (list_rows cs k) ≡ None → IsAccepted cs k
accepted cs (Kept s) h e = absurd cc
accepted cs k h e = e

-- a call that isn't too long is refused by no row
pub no_row : (cs : List Command) (k : Command) (triangles : ℕ) → OnlyLength cs k triangles → (too_long cs triangles).1 ≡ false → first_row (list_rows cs k) ≡ None
no_row cs k triangles h e = h.rows ∙ ap (λ b. cond b (Some (too_long cs triangles).0) None) e

pub fits_commands : (cs : List Command) (triangles : ℕ) → (too_long cs triangles).1 ≡ false → (length cs + 1 ≤ LIST_LIMIT) × (triangle_count cs + triangles ≤ LIST_LIMIT)
fits_commands cs triangles h = tests _ _ h
  where
    tests : (n m : ℕ) → (nat_lt LIST_LIMIT n || nat_lt LIST_LIMIT m) ≡ false → (n ≤ LIST_LIMIT) × (m ≤ LIST_LIMIT)
    tests n m e = (grind (arith, nat_tests), grind (arith, nat_tests))

-- a call that begins a query has room for its issue
pub few_begun : (cs : List Command) (k : Command) → length (issues cs) ≤ 64 → first_row (list_rows cs k) ≡ None → length (issues cs) + cond (is_begin k) 1 0 ≤ 64
few_begun cs (Begin q) few h = let n = none_of (list_rows cs (Begin q)) h in let below = n.1.1.1.0 in grind (arith, nat_tests)
few_begun cs k few h = omega arith

begun_is : (k : Command) → length (issues (k ∷ [])) ≡ cond (is_begin k) 1 0
begun_is (Begin q) = refl
begun_is k = refl

-- ---- marks

marked-append : (m : List Bool) (xs ys : List ℕ) → marked m (xs ++ ys) ≡ marked (marked m xs) ys
marked-append m [] ys = refl
marked-append m (x ∷ xs) ys = marked-append (slice_set m x true) xs ys

-- one more command marks its query
marks-push : (h : Command → Option ℕ) (cs : List Command) (k : Command) → marks_of (filter_map h (cs ++ k ∷ [])) ≡ marked_by (marks_of (filter_map h cs)) (h k)
marks-push h cs k = ap marks_of (filter_map-append h cs (k ∷ [])) ∙ marked-append (replicate 64 false) (filter_map h cs) (filter_map h (k ∷ [])) ∙ one (h k)
  where
    one : (o : Option ℕ) → marked (marks_of (filter_map h cs)) (cons_option o []) ≡ marked_by (marks_of (filter_map h cs)) o
    one None = refl
    one (Some q) = refl

length_marked : (m : List Bool) (qs : List ℕ) → length (marked m qs) ≡ length m
length_marked m [] = refl
length_marked m (q ∷ qs) = length_marked (slice_set m q true) qs ∙ length-set m q true

-- a mark below the end tells whether its query is among those
told : (m : List Bool) (qs : List ℕ) (q : ℕ) → q < length m → slice_index_or (marked m qs) q false ≡ (slice_index_or m q false || is_among q qs)
told m [] q l = sym (or-false (slice_index_or m q false))
told m (p ∷ qs) q l =
    told (slice_set m p true) qs q (subst (λ n. q < n) (sym (length-set m p true)) l)
    ∙ chosen (p == q) refl
  where
    same : (p == q) ≡ true → p ≡ q
    same e = grind (arith, nat_tests)

    apart : (p == q) ≡ false → q ≢ p
    apart e = grind (arith, nat_tests)

    chosen : (b : Bool) → (p == q) ≡ b → (slice_index_or (slice_set m p true) q false || is_among q qs) ≡ (slice_index_or m q false || (b || is_among q qs))
    chosen true e =
        ap (λ x. x || is_among q qs) (ap (λ n. slice_index_or (slice_set m n true) q false) (same e) ∙ get_or-set_same m q true false l)
        ∙ sym (or-true (slice_index_or m q false))
    chosen false e = ap (λ x. x || is_among q qs) (get_or-set_other m p q true false (apart e))

-- where each of the queries has a mark, the marks tell which are among them
marks_tell : (qs : List ℕ) → ((q : ℕ) → QUERY_LIMIT ≤ q → is_among q qs ≡ false) → (q : ℕ) → slice_index_or (marks_of qs) q false ≡ is_among q qs
marks_tell qs none q = by (nat_le QUERY_LIMIT q) refl
  where
    here : nat_le QUERY_LIMIT q ≡ false → q < 64
    here e = grind (arith, nat_tests)

    past : nat_le QUERY_LIMIT q ≡ true → QUERY_LIMIT ≤ q
    past e = grind (arith, nat_tests)

    many : length (marks_of qs) ≡ 64
    many = length_marked (replicate 64 false) qs ∙ length-replicate 64 false

    by : (b : Bool) → nat_le QUERY_LIMIT q ≡ b → slice_index_or (marks_of qs) q false ≡ is_among q qs
    by true e = get_or_past (marks_of qs) q false (subst (λ n. n ≤ q) (sym many) (past e)) ∙ sym (none q (past e))
    by false e =
        told (replicate 64 false) qs q (subst (λ n. q < n) (sym (length-replicate 64 false)) (here e))
        ∙ ap (λ b. b || is_among q qs) (get_or-replicate 64 q false false (here e))

-- ---- queries of accepted commands are below the limit

record InRange (cs : List Command) : Type 0 where
  pub begun : (q : ℕ) → QUERY_LIMIT ≤ q → is_among q (issues cs) ≡ false
  pub named : (q : ℕ) → QUERY_LIMIT ≤ q → is_among q (queries_named cs) ≡ false

abbrev Below : Option ℕ → Type 0
Below None = Unit {0}
Below (Some p) = p < QUERY_LIMIT

grown : (h : Command → Option ℕ) (cs : List Command) (c : Command) → Below (h c) → ((q : ℕ) → QUERY_LIMIT ≤ q → is_among q (filter_map h cs) ≡ false) → (q : ℕ) → QUERY_LIMIT ≤ q → is_among q (filter_map h (cs ++ c ∷ [])) ≡ false
grown h cs c below before q past =
    ap (is_among q) (filter_map-append h cs (c ∷ [])) ∙ list_any-append (λ p. p == q) (filter_map h cs) (filter_map h (c ∷ []))
    ∙ ap (λ b. b || is_among q (filter_map h (c ∷ []))) (before q past) ∙ one (h c) below
  where
    differ : (p : ℕ) → p < QUERY_LIMIT → (p == q) ≡ false
    differ p l = grind (arith, nat_tests)

    one : (o : Option ℕ) → Below o → is_among q (cons_option o []) ≡ false
    one None b = refl
    one (Some p) b = ap (λ x. x || false) (differ p b)

below_limit : (p : ℕ) → nat_le QUERY_LIMIT p ≡ false → p < QUERY_LIMIT
below_limit p e = grind (arith, nat_tests)

below_begun : (cs : List Command) (c : Command) → IsAccepted cs c → Below (query_begun c)
below_begun cs (Begin p) a = below_limit p (none_of (list_rows cs (Begin p)) a).0
below_begun cs c a = tt

below_predicate : (o : Option (ℕ × Bool)) → is_bad_predicate o ≡ false → Below (option_map (λ p. p.0) o)
below_predicate None e = tt
below_predicate (Some (q, value)) e = below_limit q e

below_named : (cs : List Command) (c : Command) → IsAccepted cs c → Below (query_named c)
below_named cs (SetPredication predicate) a = below_predicate predicate (none_of (list_rows cs (SetPredication predicate)) a).0
below_named cs (Kept s) a = below_predicate s.predicate a.1.predicate
below_named cs c a = tt

in_range : (cs : List Command) → AreAccepted cs → InRange cs
in_range cs h =
    along InRange
    (λ e c a r. record { begun = grown query_begun e c (below_begun e c a) r.begun; named = grown query_named e c (below_named e c a) r.named })
    [] cs h (record { begun = λ q past. refl; named = λ q past. refl })

-- what a recorder's marks tell
pub begun_told : {A : Type 0} (c : Inside A) (q : ℕ) → IsRecorded c → slice_index_or c.queries.begun q false ≡ is_among q (issues (commands_of c))
begun_told c q r = ap (λ m. slice_index_or m q false) r.begun ∙ marks_tell (issues (commands_of c)) (in_range (commands_of c) r.accepted).begun q

pub named_told : {A : Type 0} (c : Inside A) (q : ℕ) → IsRecorded c → slice_index_or c.queries.named q false ≡ is_among q (queries_named (commands_of c))
named_told c q r = ap (λ m. slice_index_or m q false) r.named ∙ marks_tell (queries_named (commands_of c)) (in_range (commands_of c) r.accepted).named q

pub recorded : {A : Type 0} (c d : Inside A) (k : Command) (triangles : ℕ) → IsRecorded c → OnlyLength (commands_of c) k triangles → (too_long (commands_of c) triangles).1 ≡ false → commands_of d ≡ commands_of c ++ k ∷ [] → settings_value d.settings ≡ settings_with k (settings_value c.settings) → d.triangles ≡ c.triangles + triangles → d.queries.issues ≡ c.queries.issues + cond (is_begin k) 1 0 → d.queries.opened.items ≡ queries_with k c.queries.opened.items → d.queries.begun ≡ marked_by c.queries.begun (query_begun k) → d.queries.named ≡ marked_by c.queries.named (query_named k) → IsRecorded d
recorded c d k triangles r only fits commands settings drawn begun opened marks names =
    let cs = commands_of c in
    let none = no_row cs k triangles only fits in
    let room = fits_commands cs triangles fits in
    let counts : triangle_count (commands_of d) ≡ triangle_count cs + triangles = ap triangle_count commands ∙ triangle_count-push cs k ∙ ap (λ n. triangle_count cs + n) (sym only.counted) in
    let longer : length (commands_of d) ≡ length cs + 1 = ap length commands ∙ length_push cs k in
    let more : length (issues (commands_of d)) ≡ length (issues cs) + cond (is_begin k) 1 0 =
    ap (λ x. length (issues x)) commands ∙ ap length (issues-push cs k) ∙ length-append (issues cs) (issues (k ∷ [])) ∙ ap (λ n. length (issues cs) + n) (begun_is k) in
    let few = few_begun cs k (omega (arith, r.issues, r.few_issues)) none in
    record {
      accepted = subst (λ x. AreAccepted x) (sym commands) (accepted-push cs k r.accepted (accepted cs k only.call none));
      settings = settings ∙ ap (settings_with k) r.settings ∙ sym (settings_after-push cs k) ∙ ap settings_after (sym commands);
      triangles = omega (arith, drawn, counts, r.triangles);
      few_triangles = omega (arith, drawn, r.triangles, room.1);
      few_commands = omega (arith, longer, room.0);
      issues = omega (arith, begun, more, r.issues);
      few_issues = omega (arith, begun, few, r.issues);
      opened = opened ∙ ap (queries_with k) r.opened ∙ sym (queries_open-push cs k) ∙ ap queries_open (sym commands);
      begun = marks ∙ ap (λ m. marked_by m (query_begun k)) r.begun ∙ sym (marks-push query_begun cs k) ∙ ap (λ x. marks_of (issues x)) (sym commands);
      named = names ∙ ap (λ m. marked_by m (query_named k)) r.named ∙ sym (marks-push query_named cs k) ∙ ap (λ x. marks_of (queries_named x)) (sym commands);
    }

-- a query that begins has room among the open ones
pub open_room : {A : Type 0} (c : Inside A) (k : Command) (triangles : ℕ) → IsRecorded c → OnlyLength (commands_of c) k triangles → (too_long (commands_of c) triangles).1 ≡ false → is_begin k ≡ true → length c.queries.opened.items < 64
open_room c k triangles r only fits begins =
    let few = few_begun (commands_of c) k (omega (arith, r.issues, r.few_issues)) (no_row (commands_of c) k triangles only fits) in
    let one : cond {A = ℕ} (is_begin k) 1 0 ≡ 1 = ap (λ b. cond {A = ℕ} b 1 0) begins in
    omega (arith, open_few (commands_of c), ap length r.opened, few, one)

-- what a draw or a clear leaves as it is
pub record Keeps (k : Command) : Type 0 where
  pub settings : (s : PlainSettings) → settings_with k s ≡ s
  pub opened : (qs : List ℕ) → queries_with k qs ≡ qs
  pub begins : is_begin k ≡ false
  pub begun : query_begun k ≡ None
  pub named : query_named k ≡ None

pub keeps : (k : Command) → is_drawing k ≡ true → Keeps k
keeps (Draw count start) h = record { settings = λ s. refl; opened = λ qs. refl; begins = refl; begun = refl; named = refl }
keeps (DrawIndexed count start base) h = record { settings = λ s. refl; opened = λ qs. refl; begins = refl; begun = refl; named = refl }
keeps (ClearColor rgba) h = record { settings = λ s. refl; opened = λ qs. refl; begins = refl; begun = refl; named = refl }
keeps (ClearDepthStencil depth stencil) h = record { settings = λ s. refl; opened = λ qs. refl; begins = refl; begun = refl; named = refl }
keeps k h = absurd cc

-- a draw or a clear is recorded
pub drawing_recorded : {A : Type 0} (c d : Inside A) (k : Command) (triangles : ℕ) → is_drawing k ≡ true → IsRecorded c → OnlyLength (commands_of c) k triangles → (too_long (commands_of c) triangles).1 ≡ false → commands_of d ≡ commands_of c ++ k ∷ [] → d.settings ≡ c.settings → d.triangles ≡ c.triangles + triangles → d.queries ≡ c.queries → IsRecorded d
drawing_recorded c d k triangles drawing r only fits commands settings drawn queries =
    let keep = keeps k drawing in
    let none : cond {A = ℕ} (is_begin k) 1 0 ≡ 0 = ap (λ b. cond {A = ℕ} b 1 0) keep.begins in
    recorded c d k triangles r only fits commands
    (ap settings_value settings ∙ sym (keep.settings (settings_value c.settings)))
    drawn
    (omega (arith, ap (λ q. q.issues) queries, none))
    (ap (λ q. q.opened.items) queries ∙ sym (keep.opened c.queries.opened.items))
    (ap (λ q. q.begun) queries ∙ ap (marked_by c.queries.begun) (sym keep.begun))
    (ap (λ q. q.named) queries ∙ ap (marked_by c.queries.named) (sym keep.named))

-- a push, as the definitions have the commands
pub pushed : {A : Type 0} (old new : List (Code A)) (k : Code A) → new ≡ old ++ k ∷ [] → map command_value new ≡ map command_value old ++ command_value k ∷ []
pushed old new k h = ap (map command_value) h ∙ map-append command_value old (k ∷ [])

-- the settings of a recorder are those that accepted commands can leave, and so are equal ones
pub sound_settings : {A : Type 0} (c : Inside A) (s : PlainSettings) → IsRecorded c → s ≡ settings_value c.settings → AreSound s
sound_settings c s r same = subst AreSound (sym (same ∙ r.settings)) (sound_after (commands_of c) r.accepted)

-- the first row that applies stays so with more rows behind
pub first_row-more : (rows more : List Row) (e : GfxError) → first_row rows ≡ Some e → first_row (rows ++ more) ≡ Some e
first_row-more [] more e h = absurd cc
first_row-more (row ∷ rows) more e h = tested row.1 h (λ k. first_row-more rows more e k)
  where
    tested : (b : Bool) → cond b (Some row.0) (first_row rows) ≡ Some e → (first_row rows ≡ Some e → first_row (rows ++ more) ≡ Some e) → cond b (Some row.0) (first_row (rows ++ more)) ≡ Some e
    tested true k later = k
    tested false k later = later k

-- a refused draw by indices, whatever its list
pub refused_draw : {A : Type 0} (c : Inside A) (cs : List Command) (s : PlainSettings) (count start : ℕ) (base : ℤ) (e : GfxError) → IsRecorded c → commands_of c ≡ cs → s ≡ settings_value c.settings → first_row (draw_indexed_rows s count start base) ≡ Some e → first_row (list_rows cs (DrawIndexed count start base)) ≡ Some e
refused_draw c cs s count start base e r same is h =
    first_row-more (draw_indexed_rows (settings_after cs) count start base) (too_long cs (length (draw_indexed_primitives (settings_after cs) count start base)) ∷ []) e
    (subst (λ x. first_row (draw_indexed_rows x count start base) ≡ Some e) (is ∙ r.settings ∙ ap settings_after same) h)
