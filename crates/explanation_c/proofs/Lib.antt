mod Only
