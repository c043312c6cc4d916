-- How many bytes items have.
use Rattle.std.proofs.Common.{◌≡◌, ℕ, ◌+◌, ◌*◌, ◌<◌, List, [], ◌∷◌, ◌++◌, length, map, get_or, take, drop, min, refl, ap, ◌∙◌, arith, length-append}
use Rattle.std.specs.List.{concat, flat_map}
use Rattle.std.proofs.lemmas.List.{take_more, map_push, append-nil}
use Rattle.std.proofs.lemmas.List.Concat.{flat_map-append}
use Rattle.std.proofs.lemmas.List.Folds.{concat-append}
use Rattle.gf_tables.specs.Product.{bytes_of_element, bytes_of_width, width_of}
use Rattle.gf_tables.specs.declared.kind.FieldKind.{FieldKind}
use Rattle.gf_tables.specs.declared.kind.Width.{Width}
use Rattle.gf_tables.specs.declared.kind.Width.TheVariants.{One, Two}
use Rattle.net_model.specs.declared.net.Net.{Net}
use Rattle.net_model.specs.declared.Link.{Link}
use Rattle.net_model.specs.declared.Pattern.{Pattern}
use Rattle.node_program.specs.declared.Operand.{Operand}
use Rattle.node_program.specs.declared.Decoder.{Decoder}
use Rattle.code_items.specs.Items.{Item, number_item, name_item, width_item, element_item, link_items, pattern_items, operand_items, operand_list_items, decoder_items, front_items, operands_items}
use Rattle.code_items.specs.Room.{size_of_items}

pub size-append : (items others : List Item) → size_of_items (items ++ others) ≡ size_of_items items + size_of_items others
unfolding size_of_items
size-append items others = ap length (concat-append items others) ∙ length-append (concat items) (concat others)

pub size-cons : (item : Item) (items : List Item) → size_of_items (item ∷ items) ≡ length item + size_of_items items
unfolding size_of_items
size-cons item items = length-append item (concat items)

pub size-nil : size_of_items [] ≡ 0
unfolding size_of_items
size-nil = refl

-- items of one size each
sizes : {X : Type 0} (f : X → Item) (size : ℕ) (xs : List X) → ((x : X) → length (f x) ≡ size) → size_of_items (map f xs) ≡ size * length xs
sizes f size [] each = size-nil ∙ omega arith
sizes f size (x ∷ xs) each =
    let front = size-cons (f x) (map f xs) in
    let others = sizes f size xs each in
    let one = each x in
    grind (arith)

-- a number of a width
width-size : (width : Width) (n : ℕ) → length (width_item width n) ≡ bytes_of_width width
width-size One n = refl
width-size Two n = refl

pub element-size : (field : FieldKind) (n : ℕ) → length (element_item field n) ≡ bytes_of_element field
element-size field n = width-size (width_of field) n

pub numbers-size : (numbers : List ℕ) → size_of_items (map number_item numbers) ≡ 2 * length numbers
numbers-size numbers = sizes number_item 2 numbers (λ n. refl)

pub elements-size : (field : FieldKind) (elements : List ℕ) → size_of_items (map (element_item field) elements) ≡ bytes_of_element field * length elements
elements-size field elements = sizes (element_item field) (bytes_of_element field) elements (element-size field)

pub link-size : (link : Link) → size_of_items (link_items link) ≡ 5 + length link.name
link-size link =
    let a = size-cons (name_item link.name) (number_item link.tail ∷ number_item link.head ∷ []) in
    let b = size-cons (number_item link.tail) (number_item link.head ∷ []) in
    let c = size-cons (number_item link.head) [] in
    omega (arith, size-nil)

pub pattern-size : (pattern : Pattern) → size_of_items (pattern_items pattern) ≡ 2 * length pattern.links + (length pattern.name + 3)
pattern-size pattern =
    let a = size-cons (name_item pattern.name) (number_item (length pattern.links) ∷ map number_item pattern.links) in
    let b = size-cons (number_item (length pattern.links)) (map number_item pattern.links) in
    omega (arith, numbers-size pattern.links)

operands-size : (field : FieldKind) (operands : List Operand) → size_of_items (operands_items field operands) ≡ (2 + bytes_of_element field) * length operands
operands-size field [] = size-nil ∙ omega arith
operands-size field (operand ∷ operands) =
    let a = size-append (operand_items field operand) (operands_items field operands) in
    let b = size-cons (number_item operand.from) (element_item field operand.times ∷ []) in
    let c = size-cons (element_item field operand.times) [] in
    let d = element-size field operand.times in
    let e = size-nil in
    let others = operands-size field operands in
    grind (arith)

pub operand_list-size : (field : FieldKind) (operands : List Operand) → size_of_items (operand_list_items field operands) ≡ (2 + bytes_of_element field) * length operands + 2
operand_list-size field operands =
    let a = size-cons (number_item (length operands)) (operands_items field operands) in
    omega (arith, operands-size field operands)

pub decoder-size : (field : FieldKind) (decoder : Decoder) → size_of_items (decoder_items field decoder) ≡ 2 * length decoder.links + bytes_of_element field * length decoder.entries
decoder-size field decoder =
    size-append (map number_item decoder.links) (map (element_item field) decoder.entries) ∙ omega (arith, numbers-size decoder.links, elements-size field decoder.entries)

module _ {X : Type 0} (xs : List X) (i : ℕ) (d : X) where
  pub item-size-more : (f : X → Item) → i < length xs → size_of_items (map f (take (i + 1) xs)) ≡ size_of_items (map f (take i xs)) + length (f (get_or xs i d))
  item-size-more f within =
      ap size_of_items (ap (map f) (take_more xs i d within) ∙ map_push f (take i xs) (get_or xs i d)) ∙ size-append (map f (take i xs)) (f (get_or xs i d) ∷ [])
      ∙ omega (arith, size-cons (f (get_or xs i d)) [], size-nil)

  pub items-size-more : (f : X → List Item) → i < length xs → size_of_items (flat_map f (take (i + 1) xs)) ≡ size_of_items (flat_map f (take i xs)) + size_of_items (f (get_or xs i d))
  items-size-more f within =
      ap size_of_items (ap (flat_map f) (take_more xs i d within) ∙ flat_map-append f (take i xs) (get_or xs i d ∷ []) ∙ ap (λ items. flat_map f (take i xs) ++ items) (append-nil (f (get_or xs i d))))
      ∙ size-append (flat_map f (take i xs)) (f (get_or xs i d))

-- sums under a cap
pub add_capped : (cap result room before extra total : ℕ) → result ≡ min (room + extra) cap → room ≡ min before cap → total ≡ before + extra → result ≡ min total cap
add_capped cap result room before extra total summed saturate whole = omega arith

pub sum_capped : (cap result room other before extra total : ℕ) → result ≡ min (room + other) cap → room ≡ min before cap → other ≡ min extra cap → total ≡ before + extra → result ≡ min total cap
sum_capped cap result room other before extra total summed saturate saturate' whole = omega arith

-- the front of a file
pub front-size : (mark : Item) (version rate : ℕ) (field : FieldKind) (net : Net) → length mark ≡ 4
    → size_of_items (front_items mark version net rate field)
    ≡ size_of_items (map name_item net.nodes) + size_of_items (flat_map link_items net.links) + 2 * length net.sinks + size_of_items (flat_map pattern_items (drop 1 net.patterns)) + 17
unfolding front_items
front-size mark version rate field net four = simp (size-cons, size-append, numbers-size) (omega arith)
