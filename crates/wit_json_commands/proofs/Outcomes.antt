-- From a text to what comes out.
use Rattle.std.proofs.Common.{◌≡◌, ℕ, List, Result, Some, Ok, Err, inl, inr, refl, subst}
use Rattle.wit_graph_faults.specs.Faults.{IsGraphFault}
use Rattle.wit_graph_faults.specs.declared.fault.GraphFault.{GraphFault}
use Rattle.wit_resolve_graph.specs.State.{State}
use Rattle.wit_json_graphs.specs.declared.resolves.ResolveParts.{ResolveParts}
use Rattle.wit_json_reading.specs.Documents.{read_from}
use Rattle.wit_json_reading.specs.Reading.{Reading, Reads}
use Rattle.wit_json_reading.specs.declared.fault.ReadError.{ReadError}
use Rattle.wit_json_reading.specs.declared.fault.ReadError.TheVariants as error
use Rattle.wit_json_commands.specs.Orders.{read_document}
use Rattle.wit_json_commands.specs.declared.commands.orders.Document.{Document}
use Rattle.wit_json_commands.specs.Documents.{Understands}
use Rattle.wit_json_commands.specs.GraphFaults.{invalid_fault}
use Rattle.wit_json_commands.specs.Runs.{RespondsEach}
use Rattle.wit_json_commands.specs.steps.Outcomes.{Begins, TellsFaultOf, WritesOutput}

-- a document is read, begins with a valid graph, and its commands are carried out
pub understood : (input text : List ℕ) (document : Document) (state : State) → read_from read_document input ≡ Ok document → Begins document.resolve (Ok state)
    → WritesOutput state document.commands text → Understands input text
understood input text document state reads begins writes = record {
  document = document;
  reads = reads;
  valid = begins.0;
  outputs = record {
    replies = writes.replies;
    state = writes.state;
    responds = subst (λ (s : State). RespondsEach s document.commands writes.replies writes.state) begins.1 writes.responds;
    text_is = writes.text_is;
  };
}

-- why a graph isn't valid is told
pub begins_invalid : (parts : ResolveParts) (why : GraphFault) (r : Result State ReadError) → IsGraphFault parts.graph why → Reads r (Err (invalid_fault why)) → Begins (Some parts) r
begins_invalid parts why (Ok state) is reads = absurd (never reads)
  where
    never : Err (invalid_fault why) ≡ Ok state → ⊥
    never same = cc
begins_invalid parts why (Err (error.Fault fault)) is reads = (why, (is, told (Err (invalid_fault why)) refl reads))
  where
    told : (read : Reading State) → read ≡ Err (invalid_fault why) → read ≡ Err fault → fault ≡ invalid_fault why
    told read known answered = cc
begins_invalid parts why (Err error.OutOfMemory) is reads = tt

-- it can't be read
pub read_faults : (input : List ℕ) (e : ReadError) → Reads {A = Document} (Err e) (read_from read_document input) → TellsFaultOf input e
read_faults input (error.Fault fault) reads = inl reads
read_faults input error.OutOfMemory reads = tt

-- it begins with a graph that isn't valid
pub begin_faults : (input : List ℕ) (document : Document) (e : ReadError) → read_from read_document input ≡ Ok document → Begins document.resolve (Err e) → TellsFaultOf input e
begin_faults input document (error.Fault fault) reads begins = inr (record { document = document; reads = reads; tells = begins })
begin_faults input document error.OutOfMemory reads begins = tt
