-- What is asked of any database changes nothing, and what the answer makes of an opening.
use Rattle.std.proofs.Common.{◌≡◌, ◌≢◌, ◌⊎◌, ◌∙◌, ℕ, List, [], ◌∷◌, codes, pos, Bool, true, false, Result, Ok, Err, IsTrue, inl, inr, refl, sym, ap, subst}
use Rattle.std.specs.Result.{is_ok, IfErr}
use Rattle.sqlite_value.specs.declared.value.Value.{Value}
use Rattle.sqlite_value.specs.declared.value.Value.TheVariants.{Int}
use Rattle.sqlite_value.specs.Order.{Row, column}
use Rattle.sqlite_trees.specs.Tree.{Trees}
use Rattle.sqlite_trees.specs.declared.store.Store.{Ghosts}
use Rattle.sqlite_schema.specs.declared.schema.Schema.{Schema}
use Rattle.sqlite_schema.specs.declared.command.Command.TheVariants.{Select}
use Rattle.sqlite_rules.specs.Lists.{Has}
use Rattle.sqlite.specs.declared.error.Error.{Error}
use Rattle.sqlite.specs.declared.error.Error.TheVariants.{SqliteFailure, SqlInputError, InvalidParameterCount, ExecuteReturnedResults, InvalidQuery, MultipleStatement, QueryReturnedNoRows, InvalidColumnIndex, InvalidColumnType, IntegralValueOutOfRange, Utf8Error}
use Rattle.sqlite.specs.Effect.{Database}
use Rattle.sqlite.specs.Held.{Held, state}
use Rattle.sqlite.specs.Listing.{understood, reads_listing}
use Rattle.sqlite.specs.State.{State, HasCleanDisk, Survives, QueriesRow, CommitsShowing}
use Rattle.sqlite.proofs.Callers.{IsPlain, command_of}
use Rattle.sql_tables.specs.Calls.{Asked}
use Rattle.sql_tables.specs.Queries.{only}
use Rattle.sql_tables.specs.States.{Rests}
use Rattle.sql_tables.proofs.Calls.{asked_if, asked_rests, before_then, settled_still, stays_then}
use Rattle.sql_tables.proofs.Failures.{never_blames, none_there}
use Rattle.sql_tables.proofs.Foreign.{any_row_asks, any_row_refused}
use Rattle.sql_tables.proofs.Queries.{sorted_scan}
use Rattle.sql_tables.proofs.Returning.{HasNoReturning}
use Rattle.plain_tables.specs.declared.errors.StoreError.{StoreError}
use Rattle.plain_tables.specs.declared.errors.StoreError.TheVariants as errors
use Rattle.prof_store.specs.declared.errors.OpenError.{OpenError}
use Rattle.prof_store.specs.declared.errors.OpenError.TheVariants as ends
use Rattle.prof_store.specs.Errors.{error_for, opening}
use Rattle.prof_store.specs.First.{HoldsFirst, first_meta_columns}
use Rattle.prof_store.specs.Schema.{schema_one, schema_two}
use Rattle.plain_tables.specs.Tables.{Tables}
use Rattle.prof_store.specs.Tables.{Holds, meta_columns}
use Rattle.prof_store.specs.Texts.{schema_sql}
use Rattle.prof_store.proofs.Finds.{first_schema_found, row_there, schema_found}
use Rattle.prof_store.proofs.Means.{first_schema_means, first_schema_plain, first_schema_unlisted, schema_terms, schema_shown, schema_order, schema_means, schema_plain, schema_unlisted}
use Rattle.prof_store.specs.Migrated.{Migrates}
use Rattle.prof_store.specs.Schemas.{IsAskedFor, IsFirstStore, IsOpenedBy, IsStore, Opened, OpensAs, SaysSecond, SaysVersion, failed_opening}
use Rattle.prof_store.specs.declared.open.Version.{Version}
use Rattle.prof_store.specs.declared.open.Version.TheVariants as versions

-- whatever version is said, the database was only asked
pub only_asks : (sql : List ℕ) → HasNoReturning sql → (params : Row) (old new : State) → HasCleanDisk new → Survives old new (CommitsShowing sql params old) → (answer : Result Row Error) → QueriesRow sql params old new answer
    → (version : Result Version OpenError) → SaysVersion answer version → Asked old.now.schema (is_ok version) old new
only_asks sql query params old new clean survives (Ok row) h version is = asked_if old.now.schema (is_ok version) old new (any_row_asks sql query params old new clean survives row h)
only_asks sql query params old new clean survives (Err e) h (Ok x) is = absurd cc
only_asks sql query params old new clean survives (Err e) h (Err x) is = any_row_refused sql query params old new clean survives e h

-- ---- what a row of meta says

second_meta : (t : Tables) (db : Trees) → Holds t db → Has (db 0) (meta_columns t.next)
second_meta t db was = subst (λ l. Has l (meta_columns t.next)) (sym was.contain.contents_are.0.rows_are) (inl refl)

first_meta : (t : Tables) (db : Trees) → HoldsFirst t db → Has (db 0) (first_meta_columns t.next)
first_meta t db was = subst (λ l. Has l (first_meta_columns t.next)) (sym was.contain.contents_are.0.rows_are) (inl refl)

second_says : (t : Tables) (db : Trees) (r : Row) → Holds t db → Has (db 0) r → column r 2 ≡ Int (pos 2)
second_says t db r was there = elim (subst (λ l. Has l r) was.contain.contents_are.0.rows_are there) [ inl same ↦ ap (λ l. column l 2) same | inr none ↦ absurd none ]

first_says : (t : Tables) (db : Trees) (r : Row) → HoldsFirst t db → Has (db 0) r → column r 2 ≡ Int (pos 1)
first_says t db r was there = elim (subst (λ l. Has l r) was.contain.contents_are.0.rows_are there) [ inl same ↦ ap (λ l. column l 2) same | inr none ↦ absurd none ]

pub store_says : (t : Tables) (now : Database) → now.schema ≡ schema_two → Holds t now.trees → SaysSecond now
store_says t now is was = record { schema_is = is; says = λ r there. second_says t now.trees r was there }

-- ---- which version is said

one_or_two : (v : Value) → v ≡ Int (pos 1) → v ≡ Int (pos 2) → ⊥
one_or_two v one two = let both : Int (pos 1) ≡ Int (pos 2) = sym one ∙ two in absurd cc

module _ (old new : State) (version : Result Version OpenError) (h : IsAskedFor version old new) where
  -- tables of version 1 that say so are not taken for others
  not_second : (t : Tables) → Rests schema_one (HoldsFirst t) old → version ≡ Ok versions.Second → ⊥
  not_second t was is = go h.answer h.shown h.says
    where
      go : (answer : Result Row Error) → QueriesRow schema_sql [] old new answer → SaysVersion answer version → ⊥
      go (Ok row) shown says =
          let it = first_schema_found old new row was.schema_is shown in
          one_or_two (column row 0) (it.2 ∙ first_says t old.now.trees it.0 was.holds it.1) (says.1.0 is)
      go (Err e) shown says = absurd (let both : Ok versions.Second ≡ Err (failed_opening e) = sym is ∙ says in cc)

  -- and so those of schema 2
  not_first : SaysSecond old.now → version ≡ Ok versions.First → ⊥
  not_first was is = go h.answer h.shown h.says
    where
      go : (answer : Result Row Error) → QueriesRow schema_sql [] old new answer → SaysVersion answer version → ⊥
      go (Ok row) shown says =
          let it = schema_found old new row was.schema_is shown in
          one_or_two (column row 0) (says.0.0 is) (it.2 ∙ was.says it.0 it.1)
      go (Err e) shown says = absurd (let both : Ok versions.First ≡ Err (failed_opening e) = sym is ∙ says in cc)

-- ---- what opening leaves

-- what a disk returns of late it returned before
pub clean_before : {S : Type 0} (g : Ghosts S) (version : Result Version OpenError) (old new : Held S) (result : Result Unit OpenError) → OpensAs g version old new result → HasCleanDisk (state g new) → HasCleanDisk (state g old)
clean_before g (Ok versions.First) old new result opens clean = opens.0.stays.was_clean
clean_before g (Ok versions.Second) old new result opens clean = subst (λ c. HasCleanDisk (state g c)) opens.0 clean
clean_before g (Err end) old new result opens clean = subst (λ c. HasCleanDisk (state g c)) opens.0 clean

-- of a call that only asked
asked_opened : (ok : Bool) (old new : State) → Asked old.now.schema ok old new → (IsTrue ok → (t : Tables) → Rests schema_one (HoldsFirst t) old → ⊥) → Opened ok old new
asked_opened ok old new h none = record {
  stays = h.stays;
  second = λ two. subst (λ s. Asked s ok old new) two.schema_is h;
  first = λ is t was. absurd (none is t was);
  first_crash = λ t was db may. elim (h.crash db may) [ inl before ↦ inl before | inr none ↦ absurd none ];
  kept = λ _ was is_open. h.kept was is_open;
  shut = λ _. h.crash;
}

-- and of a migration behind it
moved_opened : (ok : Bool) (old mid new : State) → Asked old.now.schema true old mid → Migrates ok mid new → (SaysSecond old.now → ⊥) → Opened ok old new
moved_opened ok old mid new asked moves apart = record {
  stays = stays_then ok old mid new asked.stays moves.stays;
  second = λ two. absurd (apart two);
  first = λ is t was. moves.moved is t (there t was);
  first_crash = λ t was db may. elim (moves.crash t (there t was) db may) [
    | inl before ↦ elim (asked.crash db before) [ inl first ↦ inl first | inr none ↦ absurd none ]
    | inr made ↦ inr made
  ];
  kept = λ failed was is_open.
      let first = asked.kept was (asked.stays.is_open refl) in
      let still = settled_still old.now.schema old mid was first in
      before_then old mid new first (moves.kept failed (record { schema_is = refl; settled = still.settled; autocommit = still.autocommit }) is_open);
  shut = λ was_shut db may. elim (moves.shut (λ is_open. was_shut (asked.stays.was_open is_open)) db may) [ inl before ↦ asked.crash db before | inr none ↦ absurd none ];
}
  where
    there : (t : Tables) → Rests schema_one (HoldsFirst t) old → Rests schema_one (HoldsFirst t) mid
    there t was = asked_rests schema_one (HoldsFirst t) old mid (subst (λ s. Asked s true old mid) was.schema_is asked) was

module _ {S : Type 0} (g : Ghosts S) (old new : Held S) (result : Result Unit OpenError) (h : IsOpenedBy g old new result) where
  pub opened_by : Opened (is_ok result) (state g old) (state g new)
  opened_by = go h.version h.asked h.opens
    where
      only : (version : Result Version OpenError) → IsAskedFor version (state g old) (state g h.mid) → new ≡ h.mid → is_ok result ≡ is_ok version → Asked (state g old).now.schema (is_ok result) (state g old) (state g new)
      only version asked same ends = subst (λ ok. Asked (state g old).now.schema ok (state g old) (state g new)) (sym ends) (subst (λ c. Asked (state g old).now.schema (is_ok version) (state g old) (state g c)) (sym same) asked.asked)

      go : (version : Result Version OpenError) → IsAskedFor version (state g old) (state g h.mid) → OpensAs g version h.mid new result → Opened (is_ok result) (state g old) (state g new)
      go (Ok versions.First) asked opens =
          moved_opened (is_ok result) (state g old) (state g h.mid) (state g new) asked.asked opens.0 (λ two. not_first (state g old) (state g h.mid) (Ok versions.First) asked two refl)
      go (Ok versions.Second) asked opens =
          asked_opened (is_ok result) (state g old) (state g new) (only (Ok versions.Second) asked opens.0 (ap is_ok opens.1)) (λ _ t was. not_second (state g old) (state g h.mid) (Ok versions.Second) asked t was refl)
      go (Err end) asked opens =
          asked_opened (is_ok result) (state g old) (state g new) (only (Err end) asked opens.0 (ap is_ok opens.1)) (λ is t was. let none : false ≡ true = sym (ap is_ok opens.1) ∙ is in absurd cc)

-- ---- a store is never refused for its schema

never_wrong : (end : StoreError) → opening end ≢ ends.WrongSchema
never_wrong errors.Memory = λ same. cc
never_wrong errors.Store = λ same. cc

-- a query for its number fails for no other schema
module _ (schema : Schema) (means : command_of (understood schema schema_sql) ≡ Select (only (sorted_scan 0 schema_terms schema_shown schema_order)) (codes "schema" ∷ [])) (plain : IsPlain (understood schema schema_sql))
    (unlisted : reads_listing schema schema_sql ≡ false) (old new : State) (has : old.now.schema ≡ schema) (row : Row) (there : Has (old.now.trees 0) row) where
  store_fails : (error : Error) → QueriesRow schema_sql [] old new (Err error) → failed_opening error ≢ ends.WrongSchema
  store_fails (SqlInputError fault) h = λ same. never_blames schema schema_sql _ _ means plain [] old new has fault h
  store_fails QueryReturnedNoRows h = λ same. row_there schema means plain unlisted old new has row there (none_there schema schema_sql _ _ means plain [] old new has h)
  store_fails (SqliteFailure code) h = never_wrong (error_for (SqliteFailure code))
  store_fails (InvalidParameterCount n m) h = never_wrong errors.Store
  store_fails ExecuteReturnedResults h = never_wrong errors.Store
  store_fails InvalidQuery h = never_wrong errors.Store
  store_fails MultipleStatement h = never_wrong errors.Store
  store_fails (InvalidColumnIndex n) h = never_wrong errors.Store
  store_fails (InvalidColumnType n type) h = never_wrong errors.Store
  store_fails (IntegralValueOutOfRange n) h = never_wrong errors.Store
  store_fails (Utf8Error n) h = never_wrong errors.Store

  -- where its row has the number of a version
  said_right : (is : Version) (answer : Result Row Error) (version : Result Version OpenError) → QueriesRow schema_sql [] old new answer → SaysVersion answer version
      → ((shown : Row) → answer ≡ Ok shown → version ≡ Ok is) → (end : OpenError) → version ≡ Err end → end ≢ ends.WrongSchema
  said_right is (Ok shown) version h says known end bad = absurd (let both : Ok is ≡ Err end = sym (known shown refl) ∙ bad in cc)
  said_right is (Err error) version h says known end bad = λ wrong.
      let both : Err end ≡ Err (failed_opening error) = sym bad ∙ says in
      let same : end ≡ failed_opening error = cc in
      store_fails error h (sym same ∙ wrong)

module _ (old mid : State) (version : Result Version OpenError) (h : IsAskedFor version old mid) where
  first_right : IsFirstStore old → (end : OpenError) → version ≡ Err end → end ≢ ends.WrongSchema
  first_right store = said_right schema_one first_schema_means first_schema_plain first_schema_unlisted old mid store.1.schema_is _ (first_meta store.0 _ store.1.holds) versions.First h.answer version h.shown h.says (known h.answer h.shown h.says)
    where
      known : (answer : Result Row Error) → QueriesRow schema_sql [] old mid answer → SaysVersion answer version → (shown : Row) → answer ≡ Ok shown → version ≡ Ok versions.First
      known (Ok row) asked says shown is =
          let it = first_schema_found old mid row store.1.schema_is asked in
          says.0.1 (it.2 ∙ first_says store.0 old.now.trees it.0 store.1.holds it.1)
      known (Err e) asked says shown is = absurd cc

  second_right : IsStore old → (end : OpenError) → version ≡ Err end → end ≢ ends.WrongSchema
  second_right store = said_right schema_two schema_means schema_plain schema_unlisted old mid store.1.schema_is _ (second_meta store.0 _ store.1.holds) versions.Second h.answer version h.shown h.says (known h.answer h.shown h.says)
    where
      known : (answer : Result Row Error) → QueriesRow schema_sql [] old mid answer → SaysVersion answer version → (shown : Row) → answer ≡ Ok shown → version ≡ Ok versions.Second
      known (Ok row) asked says shown is =
          let it = schema_found old mid row store.1.schema_is asked in
          says.1.1 (it.2 ∙ second_says store.0 old.now.trees it.0 store.1.holds it.1)
      known (Err e) asked says shown is = absurd cc

pub right_by : {S : Type 0} (g : Ghosts S) (old new : Held S) (result : Result Unit OpenError) → IsOpenedBy g old new result → IsStore (state g old) ⊎ IsFirstStore (state g old) → IfErr result (λ end. end ≢ ends.WrongSchema)
right_by g old new result h store = go h.version h.asked h.opens
  where
    refused : (out : Result Unit OpenError) (end : OpenError) → out ≡ Err end → end ≢ ends.WrongSchema → IfErr out (λ e. e ≢ ends.WrongSchema)
    refused (Ok x) end is right = tt
    refused (Err e) end is right = let same : e ≡ end = cc in subst (λ x. x ≢ ends.WrongSchema) (sym same) right

    done : (out : Result Unit OpenError) → out ≡ Ok tt → IfErr out (λ e. e ≢ ends.WrongSchema)
    done (Ok x) is = tt
    done (Err e) is = absurd cc

    go : (version : Result Version OpenError) → IsAskedFor version (state g old) (state g h.mid) → OpensAs g version h.mid new result → IfErr result (λ e. e ≢ ends.WrongSchema)
    go (Ok versions.First) asked opens = opens.1
    go (Ok versions.Second) asked opens = done result opens.1
    go (Err end) asked opens = refused result end opens.1 (elim store [
      | inl second ↦ second_right (state g old) (state g h.mid) (Err end) asked second end refl
      | inr first ↦ first_right (state g old) (state g h.mid) (Err end) asked first end refl
    ])
