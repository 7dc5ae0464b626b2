-- The answers' texts.
use Rattle.std.specs.Prelude.{ℕ, List, [], ◌∷◌, ◌++◌, codes, decimal, Option, Some, None}
use Rattle.std.specs.List.{flat_map}
use Rattle.fix_fields.specs.Field.{Field, field_text}
use Rattle.example_broker.specs.Orders.{Cancelled, Misfitted, Ordered}
use Rattle.example_broker.specs.declared.reports.Put.{Put}

abbrev pub field : ℕ → List ℕ → Field
field tag value = record { tag = tag; value = value }

-- the text of fields, one behind another
abbrev pub fields_text : List Field → List ℕ
fields_text fields = flat_map field_text fields

-- a field as the code has it
abbrev pub put_field : Put → Field
put_field put = field put.0 put.1.now

-- OrderID and ExecID of the n-th fill of a session
abbrev pub fill_name : ℕ → ℕ → List ℕ
fill_name s n = decimal s ++ codes "-" ++ decimal n

-- The ExecutionReport (35=8) that fills an order: OrderID (37), ExecID (17), ExecType (150) Trade, OrdStatus (39) Filled, the order's ClOrdID (11), Symbol (55) and Side (54), its OrderQty (38) as LastQty (32) and CumQty (14), its price as
-- LastPx (31) and AvgPx (6), and LeavesQty (151) 0.
abbrev pub fill_fields : List ℕ → Ordered → List Field
fill_fields name order =
    field 35 (codes "8") ∷ field 37 name ∷ field 17 name ∷ field 150 (codes "F") ∷ field 39 (codes "2")
    ∷ field 11 order.id ∷ field 55 order.symbol ∷ field 54 order.side ∷ field 38 order.quantity ∷ field 32 order.quantity ∷ field 31 order.price
    ∷ field 151 (codes "0") ∷ field 14 order.quantity ∷ field 6 order.price ∷ []

abbrev pub fill_text : ℕ → ℕ → Ordered → List ℕ
fill_text s n order = fields_text (fill_fields (fill_name s n) order)

-- The OrderCancelReject (35=9): OrderID (37), the request's ClOrdID (11) and OrigClOrdID (41), OrdStatus (39), OrderCancelRequest as CxlRejResponseTo (434), and CxlRejReason (102).
abbrev pub reject_fields : List ℕ → Cancelled → List ℕ → List ℕ → List Field
reject_fields name cancel status reason =
    field 35 (codes "9") ∷ field 37 name ∷ field 11 cancel.id ∷ field 41 cancel.original ∷ field 39 status ∷ field 434 (codes "1") ∷ field 102 reason ∷ []

-- where the order was filled, by the fill of this number, it is Filled and too late to cancel; another one is Rejected as unknown
abbrev pub cancel_reject_fields : ℕ → Cancelled → Option ℕ → List Field
cancel_reject_fields s cancel (Some number) = reject_fields (fill_name s number) cancel (codes "2") (codes "0")
cancel_reject_fields s cancel None = reject_fields (codes "NONE") cancel (codes "8") (codes "1")

abbrev pub cancel_reject_text : ℕ → Cancelled → Option ℕ → List ℕ
cancel_reject_text s cancel fill = fields_text (cancel_reject_fields s cancel fill)

-- The BusinessMessageReject (35=j): the message's MsgSeqNum as RefSeqNum (45) and its MsgType as RefMsgType (372), ConditionallyRequiredFieldMissing as BusinessRejectReason (380), and Text (58).
abbrev pub misfit_fields : Misfitted → List Field
misfit_fields misfit =
    field 35 (codes "j") ∷ field 45 misfit.number ∷ field 372 misfit.kind ∷ field 380 (codes "5") ∷ field 58 (codes "a field is missing or too long") ∷ []

abbrev pub misfit_text : Misfitted → List ℕ
misfit_text misfit = fields_text (misfit_fields misfit)
