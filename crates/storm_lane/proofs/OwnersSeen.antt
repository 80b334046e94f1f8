-- One of an owner's readers has seen more, and the others have seen what they had.
use Rattle.std.proofs.Common.{◌≡◌, ◌≢◌, ◌∙◌, ◌<◌, ◌≤◌, ℕ, List, [], ◌∷◌, ◌++◌, length, length-append, map, get_or, set, Option, Some, None, refl, sym, ap, subst, arith, ⊎_elim}
use Rattle.std.specs.List.{slice_get}
use Rattle.std.proofs.lemmas.Bool.{cases_eq, cases_lt}
use Rattle.std.proofs.lemmas.List.{get_or_past, length-map, map-append}
use mathlib.Core.List.{IsPrefix}
use Rattle.std.proofs.lemmas.Option.{same_Some, slice_get_read, slice_get_within}
use Rattle.logbook.specs.Pages.{Book}
use Rattle.flow_types.specs.declared.key.FlowKey.{FlowKey}
use Rattle.flow_types.specs.Size.{Size}
use Rattle.hash_family.specs.Hash.{place}
use Rattle.group_search.specs.declared.published.Publication.{Publication}
use Rattle.group_search.specs.Home.{Home}
use Rattle.group_search.specs.Owned.{IsOwned}
use Rattle.delta_codec.specs.declared.message.FibMessage.{FibMessage}
use Rattle.replica_shard.specs.declared.shard.Shard.{Shard}
use Rattle.replica_shard.specs.Shard.{home_in_state, route_in_state}
use Rattle.replica_shard.specs.Store.{ShardStore, shard_state_of}
use Rattle.partial_fib.specs.Ends.{ReaderState}
use Rattle.partial_fib.specs.Fib.{FibState}
use Rattle.partial_fib.specs.Store.{FibStore}
use Rattle.flow_types.proofs.Prefixes.{prefix_self}
use Rattle.run_model.specs.declared.reply.Reply.{Reply}
use Rattle.packet_path.specs.Fibs.{AreFibsOf, AsksOne, IsFibOf, fib_seen, turns_at}
use Rattle.packet_path.specs.Path.{answered_by, path_by}
use Rattle.packet_path.specs.Seated.{Viewed}
use Rattle.packet_path.proofs.Asking.{is-there, opening-is, set-elsewhere, set-here, turns-is}
use Rattle.storm_model.specs.Lists.{reply_routed, with_list}
use Rattle.storm_lane.specs.Readers.{AreOthersAsBefore, AreOwners, HaveSeenMore, ReadersState, owner_reply, records_at, seats_of, table_opened}
use Rattle.storm_lane.proofs.Rows.{made-before, made-elsewhere, made-here, map-alike, map-kept, map-there, slice_get-append}

abbrev shard_of_view : Viewed → Shard
shard_of_view v = v.shard

abbrev opening_of : ReaderState → FibStore
opening_of r = r.opening

abbrev list_of_view : Viewed → List Publication
list_of_view v = v.list

-- ---- the FIBs

pub books-kept : (asked : Option ℕ) (before after : List ReaderState) → AsksOne asked before after → map (λ (r : ReaderState). r.book) after ≡ map (λ (r : ReaderState). r.book) before
books-kept asked before after asks = map-alike (λ (r : ReaderState). r.book) after before asks.many (λ i x y now was. (asks.later i y x was now).same_book)

pub openings-kept : (asked : Option ℕ) (before after : List ReaderState) → AsksOne asked before after → map (λ (r : ReaderState). r.opening) after ≡ map (λ (r : ReaderState). r.opening) before
openings-kept asked before after asks = map-alike (λ (r : ReaderState). r.opening) after before asks.many (λ i x y now was. (asks.later i y x was now).same_opening)

pub fibs-more : (asked : Option ℕ) (before after : List ReaderState) → AsksOne asked before after → (node : ℕ) → IsPrefix (turns_at before node) (turns_at after node)
fibs-more asked before after asks node =
    ⊎_elim
    (λ (low : node < length before).
    let was = is-there before node low in
    let now = is-there after node (omega (arith, low, asks.many)) in
    subst (λ (p : List FibMessage × List FibMessage). IsPrefix p.0 p.1) (λ i. (sym (turns-is before node was.0 was.1) i, sym (turns-is after node now.0 now.1) i))
    (asks.later node was.0 now.0 was.1 now.1).longer)
    (λ (past : length before ≤ node).
    subst (IsPrefix (turns_at before node)) (none before past ∙ sym (none after (omega (arith, past, asks.many)))) (prefix_self (turns_at before node)))
    (cases_lt node (length before))
  where
    none : (readers : List ReaderState) → length readers ≤ node → turns_at readers node ≡ []
    none readers past = get_or_past (map (λ (r : ReaderState). r.turns) readers) node [] (omega (arith, past, length-map readers (λ (r : ReaderState). r.turns)))

-- the readers are of this owner's FIBs at the nodes of the cluster
pub fibs-fit : (readers : ReadersState) (are : AreOwners (seats_of readers)) → length readers.views ≡ readers.size.nodes → AreFibsOf readers.size readers.owner readers.fibs
fibs-fit readers are whole = record {
  one_each = many;
  each = λ node low.
      let there = is-there readers.fibs node (omega (arith, low, many)) in
      let fib = opening-is readers.fibs node there.0 there.1 in
      subst (IsFibOf readers.size readers.owner node) (sym fib)
      (are.fibs node there.0.opening (map-there (λ (r : ReaderState). r.opening) readers.fibs node there.0 there.1));
}
  where
    many : length readers.fibs ≡ readers.size.nodes
    many = sym (length-map readers.fibs (λ (r : ReaderState). r.opening)) ∙ are.as_many ∙ length-map readers.views shard_of_view ∙ whole

-- ---- what is said

pub said-alike : (seen : ℕ) (sent : Option ℕ) (fib_of : ℕ → FibState) (at : Home) (key : FlowKey) → answered_by seen sent fib_of at key ≡ reply_routed seen sent fib_of at key
said-alike seen None fib_of at key = refl
said-alike seen (Some node) fib_of at key = refl

-- ---- the view at one node has seen more, and so have FIBs

module _ (before : ReadersState) (node : ℕ) (old new : Viewed) (there : slice_get before.views node ≡ Some old) (low : node < length before.views) (fibs : List ReaderState) where
  abbrev after : ReadersState
  after = record { size = before.size; owner = before.owner; views = set before.views node new; fibs = fibs }

  pub still-seats : new.shard ≡ old.shard → map (λ (r : ReaderState). r.book) fibs ≡ map (λ (r : ReaderState). r.book) before.fibs
      → map (λ (r : ReaderState). r.opening) fibs ≡ map (λ (r : ReaderState). r.opening) before.fibs → seats_of after ≡ seats_of before
  still-seats same books openings = λ i. record {
    size = before.size;
    owner = before.owner;
    shards = map-kept shard_of_view before.views node old new there same i;
    books = books i;
    openings = openings i;
  }

  pub records-here : records_at after.views node ≡ new.list
  records-here = made-here list_of_view before.views node old new there []

  pub seen-more : IsPrefix old.list new.list → ((n : ℕ) → IsPrefix (turns_at before.fibs n) (turns_at fibs n)) → HaveSeenMore before after
  seen-more longer more = record {
    tables = λ other.
        ⊎_elim
        (λ (is : other ≡ node).
        subst (λ (n : ℕ). IsPrefix (records_at before.views n) (records_at after.views n)) (sym is)
        (subst (λ (p : List Publication × List Publication). IsPrefix p.0 p.1) (λ i. (sym (made-before list_of_view before.views node old new there []) i, sym records-here i)) longer))
        (λ (apart : other ≢ node).
        subst (IsPrefix (records_at before.views other)) (sym (made-elsewhere list_of_view before.views node old new there [] other apart)) (prefix_self (records_at before.views other)))
        (cases_eq other node);
    fibs = more;
  }

  abbrev by-parts : ShardStore → List Publication → (blocks : ℕ) → FlowKey → Reply
  by-parts table list blocks key =
      let shard = shard_state_of (with_list table list) in
      let route = route_in_state shard (place blocks key) key in
      reply_routed route.version route.node (fib_seen fibs) (home_in_state shard (place blocks key)) key

  pub path-said : new.shard.shape ≡ before.size → (key : FlowKey) → path_by new.shard new.list fibs key ≡ owner_reply after node key
  path-said shape key =
      let table = ap table_opened (map-there shard_of_view after.views node new (set-here before.views node new low)) in
      said-alike _ _ (fib_seen fibs) _ key ∙ (λ i. by-parts (sym table i) (sym records-here i) (shape i).blocks key)

-- ---- a packet's path

module _ (before : ReadersState) (are : AreOwners (seats_of before)) (whole : length before.views ≡ before.size.nodes) (ingress : ℕ) (entered : ingress < before.size.nodes)
    (old : Viewed) (is : old ≡ get_or before.views ingress old) where
  view-there : slice_get before.views ingress ≡ Some old
  view-there = slice_get_read before.views before.size.nodes ingress old (sym whole) entered is

  view-low : ingress < length before.views
  view-low = omega (arith, whole, entered)

  view-fits : (old.shard.shape ≡ before.size) × (old.shard.owner ≡ before.owner)
  view-fits = are.tables ingress old.shard (map-there shard_of_view before.views ingress old view-there)

  pub view-owned : (key : FlowKey) → IsOwned before.size before.owner key → IsOwned old.shard.shape old.shard.owner key
  view-owned key owned = subst (λ (p : Size × ℕ). IsOwned p.0 p.1 key) (λ i. (sym view-fits.0 i, sym view-fits.1 i)) owned

  pub view-fibs : (fibs : List ReaderState) → fibs ≡ before.fibs → AreFibsOf old.shard.shape old.shard.owner fibs
  view-fibs fibs same =
      subst (λ (p : Size × ℕ × List ReaderState). AreFibsOf p.0 p.1 p.2) (λ i. (sym view-fits.0 i, sym view-fits.1 i, sym same i)) (fibs-fit before are whole)

  module _ (new : Viewed) (same : new.shard ≡ old.shard) (asked : Option ℕ) (fibs put : List ReaderState) (is_put : put ≡ fibs) (asks : AsksOne asked before.fibs fibs) where
    abbrev left : ReadersState
    left = record { size = before.size; owner = before.owner; views = set before.views ingress new; fibs = put }

    pub path-seats : seats_of left ≡ seats_of before
    path-seats =
        still-seats before ingress old new view-there view-low put same
        (ap (map (λ (r : ReaderState). r.book)) is_put ∙ books-kept asked before.fibs fibs asks)
        (ap (map (λ (r : ReaderState). r.opening)) is_put ∙ openings-kept asked before.fibs fibs asks)

    pub path-owners : AreOwners (seats_of left)
    path-owners = subst AreOwners (sym path-seats) are

    pub path-more : IsPrefix old.list new.list → HaveSeenMore before left
    path-more longer =
        seen-more before ingress old new view-there view-low put longer
        (λ n. subst (λ (rs : List ReaderState). IsPrefix (turns_at before.fibs n) (turns_at rs n)) (sym is_put) (fibs-more asked before.fibs fibs asks n))

    pub path-gives : (key : FlowKey) → path_by new.shard new.list fibs key ≡ owner_reply left ingress key
    path-gives key =
        ap (λ (rs : List ReaderState). path_by new.shard new.list rs key) (sym is_put)
        ∙ path-said before ingress old new view-there view-low put (ap (λ (s : Shard). s.shape) same ∙ view-fits.0) key

-- ---- a node's readers meet

module _ (before : ReadersState) (are : AreOwners (seats_of before)) (node : ℕ) (old new : Viewed) (is : old ≡ get_or before.views node old) (shard : Shard)
    (there : slice_get (seats_of before).shards node ≡ Some shard) (reader told : ReaderState) (is_reader : reader ≡ get_or before.fibs node reader) (book : Book)
    (has : slice_get (seats_of before).books node ≡ Some book) where
  pub view-in : node < length before.views
  view-in = omega (arith, slice_get_within (seats_of before).shards node shard there, length-map before.views shard_of_view)

  pub fib-in : node < length before.fibs
  fib-in = omega (arith, slice_get_within (seats_of before).books node book has, length-map before.fibs (λ (r : ReaderState). r.book))

  its-view : slice_get before.views node ≡ Some old
  its-view = slice_get_read before.views (length before.views) node old refl view-in is

  its-reader : slice_get before.fibs node ≡ Some reader
  its-reader = slice_get_read before.fibs (length before.fibs) node reader refl fib-in is_reader

  pub shard-met : old.shard ≡ shard
  shard-met = same_Some old.shard shard (sym (map-there shard_of_view before.views node old its-view) ∙ there)

  pub book-met : reader.book ≡ book
  book-met = same_Some reader.book book (sym (map-there (λ (r : ReaderState). r.book) before.fibs node reader its-reader) ∙ has)

  module _ (same : new.shard ≡ old.shard) (turns : List FibMessage) (is_told : told ≡ record reader { turns = turns }) (longer : IsPrefix reader.turns turns) where
    abbrev met : ReadersState
    met = record { size = before.size; owner = before.owner; views = set before.views node new; fibs = set before.fibs node told }

    abbrev turns_of_reader : ReaderState → List FibMessage
    turns_of_reader r = r.turns

    pub met-seats : seats_of met ≡ seats_of before
    met-seats =
        still-seats before node old new its-view view-in met.fibs same
        (map-kept (λ (r : ReaderState). r.book) before.fibs node reader told its-reader (ap (λ (r : ReaderState). r.book) is_told))
        (map-kept (λ (r : ReaderState). r.opening) before.fibs node reader told its-reader (ap (λ (r : ReaderState). r.opening) is_told))

    pub met-owners : AreOwners (seats_of met)
    met-owners = subst AreOwners (sym met-seats) are

    pub met-records : records_at met.views node ≡ new.list
    met-records = records-here before node old new its-view view-in met.fibs

    pub met-turns : turns_at met.fibs node ≡ turns
    met-turns = made-here turns_of_reader before.fibs node reader told its-reader [] ∙ ap turns_of_reader is_told

    pub met-others : AreOthersAsBefore node before met
    met-others = record {
      tables = λ other apart. set-elsewhere before.views node other new apart;
      fibs = λ other apart. set-elsewhere before.fibs node other told apart;
    }

    pub met-more : IsPrefix old.list new.list → HaveSeenMore before met
    met-more more =
        seen-more before node old new its-view view-in met.fibs more
        (λ other.
        ⊎_elim
        (λ (here : other ≡ node).
        subst (λ (n : ℕ). IsPrefix (turns_at before.fibs n) (turns_at met.fibs n)) (sym here)
        (subst (λ (p : List FibMessage × List FibMessage). IsPrefix p.0 p.1)
        (λ i. (sym (made-before turns_of_reader before.fibs node reader told its-reader []) i, sym met-turns i)) longer))
        (λ (apart : other ≢ node).
        subst (IsPrefix (turns_at before.fibs other)) (sym (made-elsewhere turns_of_reader before.fibs node reader told its-reader [] other apart)) (prefix_self (turns_at before.fibs other)))
        (cases_eq other node))

-- ---- readers of one more node

pub one-more : (before : ReadersState) → AreOwners (seats_of before) → (view : Viewed) (fib : ReaderState) → view.shard.shape ≡ before.size → view.shard.owner ≡ before.owner
    → IsFibOf before.size before.owner (length before.views) fib.opening
    → AreOwners (seats_of (record before { views = before.views ++ view ∷ []; fibs = before.fibs ++ fib ∷ [] }))
one-more before are view fib shape owner fits = record {
  as_many = omega (
    arith,
    length-map before.views shard_of_view,
    length-map before.fibs opening_of,
    are.as_many,
    length-map (before.views ++ view ∷ []) shard_of_view,
    length-map (before.fibs ++ fib ∷ []) opening_of,
    length-append before.views (view ∷ []),
    length-append before.fibs (fib ∷ []),
  );
  tables = λ node shard has.
      ⊎_elim
      (λ (there : slice_get (map shard_of_view before.views) node ≡ Some shard). are.tables node shard there)
      (λ (end : (node ≡ length (map shard_of_view before.views)) × (view.shard ≡ shard)).
      (sym (ap (λ (s : Shard). s.shape) end.1) ∙ shape, sym (ap (λ (s : Shard). s.owner) end.1) ∙ owner))
      (slice_get-append (map shard_of_view before.views) view.shard node shard
      (sym (ap (λ (xs : List Shard). slice_get xs node) (map-append shard_of_view before.views (view ∷ []))) ∙ has));
  fibs = λ node opening has.
      ⊎_elim
      (λ (there : slice_get (map opening_of before.fibs) node ≡ Some opening). are.fibs node opening there)
      (λ (end : (node ≡ length (map opening_of before.fibs)) × (fib.opening ≡ opening)).
      let at : node ≡ length before.views = omega (arith, end.0, are.as_many, length-map before.views shard_of_view) in
      subst (λ (p : ℕ × FibStore). IsFibOf before.size before.owner p.0 p.1) (λ i. (sym at i, end.1 i)) fits)
      (slice_get-append (map opening_of before.fibs) fib.opening node opening
      (sym (ap (λ (xs : List FibStore). slice_get xs node) (map-append opening_of before.fibs (fib ∷ []))) ∙ has));
}
