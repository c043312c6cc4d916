-- What the items of a file say one by one is what holds of a code, or of a draft.
use Rattle.std.specs.Prelude.{◌≡◌, ℕ, None, true, List}
use Rattle.std.proofs.Common.{refl, sym, subst}
use Rattle.net_model.specs.Lists.{is_among}
use Rattle.net_model.specs.declared.net.Net.{Net}
use Rattle.node_program.specs.Code.{choice_of}
use Rattle.node_program.specs.declared.code.Code.{Code}
use Rattle.code_items.specs.DraftParts.{DraftParts}
use Rattle.code_items.specs.Reading.{Front, has_field}
use Rattle.code_items.specs.Spelling.{front_of}
use Rattle.code_items.proofs.DraftReaders.{AreDraftPartsRead, AreDraftPartsRead-from_draft}
use Rattle.code_items.proofs.PartLaws.{IsNetwork-from_read, IsDraft-from_read, IsCode-from_read, EachFits-from_read, AreDecodersRead-from_code}
use Rattle.code_file.specs.Items.{code_mark, code_versions}
use Rattle.code_file.specs.Reading.{Contents}
use Rattle.code_file.specs.Spelling.{contents_in, AreContents, AreDraftParts, IsNetOf, IsNetworkFront}
use Rattle.code_file.proofs.CodeReaders.{AreContentsRead}

-- the network of a front
unfoldable pub net_of : (front : Front) → IsNetworkFront front → Net
net_of front network = record {
  nodes = front.nodes;
  links = front.links;
  source = front.source;
  sinks = front.sinks;
  patterns = front.patterns;
  field = choice_of front.field;
  wanted = None;
  network = network;
  rate = λ rate some. absurd cc;
}

-- it has the parts of the front
pub IsNetOf-net_of : (front : Front) (network : IsNetworkFront front) → IsNetOf front (net_of front network)
unfolding net_of
IsNetOf-net_of front network = record { nodes = refl; links = refl; source = refl; sinks = refl; patterns = refl; field = refl; wanted = refl }

-- a front is said of each network that has its parts
front_is : (front : Front) (net : Net) → IsNetOf front net → front ≡ front_of net front.rate front.field
front_is front net is = sym (rw (is.nodes, is.links, is.source, is.sinks, is.patterns) refl)

-- what is read of a draft is of one
pub AreDraftParts-from_read : (versions : List ℕ) (parts : DraftParts) → AreDraftPartsRead versions parts → AreDraftParts parts
AreDraftParts-from_read versions parts is = record {
  network = IsNetwork-from_read parts.version parts.front is.front;
  draft = λ net has.
      let read = subst (λ (front : Front). AreDraftPartsRead versions (record { version = parts.version; front = front; operands = parts.operands })) (front_is parts.front net has) is in
      IsDraft-from_read net parts.front.rate parts.front.field parts.version parts.operands has.field has.wanted read.front read.operands;
}

-- what is read is of a code
pub AreContents-from_read : (contents : Contents) → AreContentsRead contents → AreContents contents
AreContents-from_read contents is = record {
  network = IsNetwork-from_read contents.version contents.front is.draft.front;
  code = λ net has.
      let read = subst (λ (front : Front). AreContentsRead (record { version = contents.version; front = front; operands = contents.operands; decoders = contents.decoders })) (front_is contents.front net has) is in
      IsCode-from_read net contents.front.rate contents.front.field contents.version contents.operands contents.decoders has.field has.wanted read.draft.front read.draft.operands
      (EachFits-from_read contents.version (front_of net contents.front.rate contents.front.field) contents.decoders read.decoders);
}

-- what the file of a code says is read, in each version in which a code over its field can stand
pub AreContentsRead-from_code : (version : ℕ) (code : Code) → is_among code_versions version ≡ true → has_field version code.field ≡ true → AreContentsRead (contents_in version code)
AreContentsRead-from_code version code known says_field =
    let net = code.net in
    let draft = code.code.draft in
    record {
      draft = AreDraftPartsRead-from_draft code_mark code_versions version net code.rate code.field code.operands known says_field draft;
      decoders = AreDecodersRead-from_code net code.rate code.field version code.decoders net.network.few_links draft.some_rate draft.few_demands code.code.demand_decoders;
    }
